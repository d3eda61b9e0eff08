use Rattle.std.proofs.Common.{◌≡◌, ℕ, false, Some, None, cond, sym, ap, ◌∙◌}
use Rattle.td_calls.specs.Callbacks.{is_notified}
use Rattle.td_machine.specs.Active.{kind_of}
use Rattle.td_reach.specs.declared.stamp.Place.{Place}
use Rattle.td_shard.specs.Asked.{noted_at}
use Rattle.td_core.specs.Taking.{asked_of}
use Rattle.td_core.proofs.NextReady.{none_asked}
use Rattle.td_core.proofs.take.asked_of.Goals as goal

pub returns-then-not-is_notified : goal.returns-then-not-is_notified
returns-then-not-is_notified c =
    let plan = c.args.table.now.plan in
    let v = c.in-Vertex.vertex in
    let t = c.args.stamp.now.time in
    let kind : is_notified (kind_of plan v) ≡ false = ap is_notified (sym (c.kind.ensures ∙ c.requires.routes.kind v)) ∙ sym c.is_notified.ensures ∙ c.if-not-is_notified.true in
    let none = none_asked c.time_list_order.ensures.told_apart c.args.waiting.now (λ (n : ℕ). is_notified (kind_of plan n)) c.requires.asked.notified v t kind in
    sym (ap (λ (p : Place). asked_of c.args.waiting.now p t) c.in-Vertex.is ∙ ap (λ b. cond b (Some (noted_at v t)) None) none)
