use Rattle.std.proofs.Common.{inl, inr, ⊎_elim}
use Rattle.td_store.proofs.standing.laws.raise_is_safe.Goals as goal

pub returns-clause-begun : goal.returns-clause-begun
returns-clause-begun g c plan head side s old new is_plan each small puts t f le left = ⊎_elim
    (λ was. inl was)
    (λ from. inr (c.head_is_raised.ensures.begun plan head side s from.0 f is_plan (each from.0 from.1) small from.2))
    (puts.before t f le left)

pub returns-clause-done : goal.returns-clause-done
returns-clause-done g c plan head side s old new is_plan each small lawful puts is_open f image =
    let laws = g.met.D.Disk in
    let from = puts.each f (laws.counts_now new (g.D.Disk.view old).state.moment f lawful puts.later image) in
    c.head_is_raised.ensures.done plan head side s from.0 f is_plan (each from.0 from.1) small (record { others = from.2.others; region = is_open.each f image })
