use Rattle.std.proofs.Common.{◌≡◌, [], ap, sym, subst, ◌∙◌}
use Rattle.td_plan.specs.Blocks.{vertices}
use Rattle.td_plan.specs.Tree.{tree_of, placed_in, IsNumbered}
use Rattle.td_plan.specs.Placed.{IsPlacedTree}
use Rattle.td_machine.proofs.Flows.{AreLaid}
use Rattle.td_machine.proofs.History.{Origin}
use Rattle.td_machine.proofs.PlanFacts.{PlanFacts}
use Rattle.td_machine.specs.Sound.{batches_of}
use Rattle.td_machine.specs.Work.{Records, Notes}
use Rattle.td_machine.proofs.Lawful.{plan_facts, plan_laid}
use Rattle.td_machine.proofs.NotesGiven.{notes_are}
use Rattle.td_machine.proofs.Played.{play_has}
use Rattle.td_machine.proofs.RecordsGiven.{records_are}
use Rattle.td_machine.proofs.laws.exact_work.Goals as goal

pub returns : goal.returns
returns g c plan states first workers events replies S lawful ordered l m p passed =
    let below = c.laws_below.ensures in
    let answers = g.L.Law.answers in
    let r = play_has below answers plan states first workers events replies S lawful (plan_facts below plan lawful) ordered l m p in
    let origin : Origin = record { states = states; first = first; batches = batches_of events replies } in
    let back = sym r.2 in
    let facts : PlanFacts S.plan = subst PlanFacts back (plan_facts below plan lawful) in
    let numbered : IsNumbered 0 (tree_of S.plan) = subst (λ q. IsNumbered 0 (tree_of q)) back (below.numbered plan lawful) in
    let laid : AreLaid S.plan [] (tree_of S.plan) = subst (λ q. AreLaid q [] (tree_of q)) back (plan_laid below plan lawful) in
    let placed : IsPlacedTree (tree_of S.plan) = subst (λ q. IsPlacedTree (tree_of q)) back (below.placed plan lawful) in
    let all : placed_in [] 0 (tree_of S.plan) ≡ vertices S.plan = subst (λ q. placed_in [] 0 (tree_of q) ≡ vertices q) back (below.in_order plan lawful) in
    record {
      records = sym r.4 ∙ records_are below answers origin S r.0 facts numbered laid placed all r.1 passed ∙ ap (λ q. Records answers q states (batches_of events replies)) r.2;
      notes = sym r.5 ∙ notes_are below answers origin S r.0 facts numbered laid placed all r.1 passed ∙ (λ i. Notes (r.3 i) answers (r.2 i) states (batches_of events replies));
    }
