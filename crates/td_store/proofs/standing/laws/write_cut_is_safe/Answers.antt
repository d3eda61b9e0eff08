use Rattle.std.proofs.Common.{inl, inr, ⊎_elim}
use Rattle.td_store.proofs.standing.laws.write_cut_is_safe.Goals as goal

pub returns-clause-begun : goal.returns-clause-begun
returns-clause-begun g c plan head side s k states old new each cut fits puts t f le left = ⊎_elim
    (λ was. inl was)
    (λ from. inr (c.cut_is_written.ensures.begun plan head side s from.0 f k states (each from.0 from.1) cut fits from.2))
    (puts.before t f le left)

pub returns-clause-done : goal.returns-clause-done
returns-clause-done g c plan head side s k states old new each cut fits lawful puts is_open f image =
    let laws = g.met.D.Disk in
    let from = puts.each f (laws.counts_now new (g.D.Disk.view old).state.moment f lawful puts.later image) in
    c.cut_is_written.ensures.done plan head side s from.0 f k states (each from.0 from.1) cut fits (record { others = from.2.others; region = is_open.each f image })
