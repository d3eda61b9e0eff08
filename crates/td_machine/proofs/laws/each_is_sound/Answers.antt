use Rattle.std.proofs.Common.{[], subst, sym}
use Rattle.td_plan.specs.Tree.{tree_of, IsNumbered}
use Rattle.td_plan.specs.Placed.{IsPlacedTree}
use Rattle.td_machine.proofs.History.{Origin}
use Rattle.td_machine.proofs.Flows.{AreLaid}
use Rattle.td_machine.proofs.PlanFacts.{PlanFacts}
use Rattle.td_machine.specs.Sound.{batches_of}
use Rattle.td_machine.proofs.Played.{play_has}
use Rattle.td_machine.proofs.Base.{is_sound}
use Rattle.td_machine.proofs.Lawful.{plan_facts, plan_laid}
use Rattle.td_machine.proofs.laws.each_is_sound.Goals as goal

pub returns : goal.returns
returns g c plan states first workers events replies S lawful ordered l m p =
    let below = c.laws_below.ensures in
    let answers = g.L.Law.answers in
    let facts = plan_facts below plan lawful in
    let laid = plan_laid below plan lawful in
    let r = play_has below answers plan states first workers events replies S lawful facts ordered l m p in
    let origin : Origin = record { states = states; first = first; batches = batches_of events replies } in
    is_sound below answers origin S r.0 (subst PlanFacts (sym r.2) facts) (subst (λ q. IsNumbered 0 (tree_of q)) (sym r.2) (below.numbered plan lawful)) (subst (λ q. AreLaid q [] (tree_of q)) (sym r.2) laid)
    (subst (λ q. IsPlacedTree (tree_of q)) (sym r.2) (below.placed plan lawful)) r.1
