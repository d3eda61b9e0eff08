use Rattle.std.proofs.Common.{◌≡◌, ◌∙◌, ap, sym, subst, fold, arith}
use Rattle.std.specs.Prelude.{None}
use Rattle.std.proofs.lemmas.Grind.{common_steps}
use Rattle.td_plan.specs.Blocks.{vertices}
use Rattle.td_plan.specs.Tree.{Nodes, tree_of}
use Rattle.td_calls.specs.Fits.{first_lack}
use Rattle.td_batch.specs.Meaning.{EpochInput, epoch_result}
use Rattle.td_batch.specs.Changes.{with_change}
use Rattle.td_batch.specs.Steps.Emitted.{input_of}
use Rattle.td_batch.specs.Steps.Tree.{nodes_of}
use Rattle.td_batch.proofs.Local.{changes_are_kept}
use Rattle.td_batch.proofs.evaluator.Evaluator.changes.Goals as goal

pub returns-clause-outputs : goal.returns-clause-outputs
returns-clause-outputs g c = grind (arith, common_steps)

pub returns-clause-changes : goal.returns-clause-changes
returns-clause-changes g c = grind (arith, common_steps)

pub returns-clause-states : goal.returns-clause-states
returns-clause-states g c =
    let epoch : EpochInput = input_of g.L.Law.answers (g.S.KeptStates.states c.args.states.now) c.args.batch.now in
    let stored = g.C.Closures.stored c.args.calls.now in
    let nodes : Nodes = nodes_of c.self.inside.tree in
    let fits = subst (λ plan. first_lack stored (vertices plan) ≡ None) (sym c.self.view_is) c.requires.fits in
    let is : nodes ≡ tree_of c.args.self.now = c.self.invariant.0 ∙ ap tree_of c.self.view_is in
    ap (fold with_change epoch.states) c.in_ok-outputs.ensures.changes
    ∙ changes_are_kept epoch stored nodes (c.self.invariant.1 stored fits) ∙ ap (λ n. (epoch_result epoch n).states) is
