use Rattle.std.proofs.Common.{◌<◌, refl, subst}
use Rattle.std.specs.Prelude.{None}
use Rattle.td_machine.proofs.History.{Origin}
use Rattle.td_machine.specs.Steps.Answer.{has_taken}
use Rattle.td_machine.specs.Sound.{batches_of}
use Rattle.td_machine.proofs.Played.{play_has}
use Rattle.td_machine.proofs.Stuck.{none_may, all_pass}
use Rattle.td_machine.proofs.Lawful.{plan_facts}
use Rattle.td_machine.proofs.laws.never_stuck.Goals as goal

pub returns : goal.returns
returns g c plan states first workers events replies S lawful ordered l m p none_taken e high =
    let below = c.laws_below.ensures in
    let answers = g.L.Law.answers in
    let r = play_has below answers plan states first workers events replies S lawful (plan_facts below plan lawful) ordered l m p in
    let origin : Origin = record { states = states; first = first; batches = batches_of events replies } in
    all_pass below answers origin S r.0 r.1 (λ s here task may. none_may below S s (has_taken None) S (none_taken s (subst (λ w. s < w) r.3 here)) refl task may) e high
