use Rattle.std.proofs.Common.{◌<◌}
use Rattle.td_reach.specs.declared.stamp.Stamp.{Stamp}
use Rattle.td_machine.specs.Active.{active}
use Rattle.td_machine.proofs.InOrder.{history_of, origin_of}
use Rattle.td_machine.proofs.Lists.{all_weaken}
use Rattle.td_machine.proofs.Plain.{passed_from}
use Rattle.td_machine.proofs.laws.base_has_passed.Goals as goal

pub returns : goal.returns
returns g c S r =
    let below = c.laws_below.ensures in
    let answers = g.L.Law.answers in
    let h = history_of below answers S r in
    passed_from below answers (origin_of below answers S r) S h.0 S.base
    (all_weaken (λ (p : Stamp). (S.base < p.time.epoch) × (S.collected < p.time.epoch)) (λ p. S.base < p.time.epoch) (λ p k. k.0) (active S) h.1.running.later)
