use Rattle.std.proofs.Common.{ap, ◌∙◌, subst, sym}
use Rattle.td_plan.specs.Marks.{lines_of_marks}
use Rattle.td_plan.specs.Tree.{tree_of, Rest}
use Rattle.td_calls.specs.Fits.{first_lack}
use Rattle.td_batch.specs.Steps.Epoch.{IsOuter}
use Rattle.td_batch.proofs.Outer.{tree_is_outer}
use Rattle.td_batch.proofs.tree.Tree.of.Goals as goal

pub returns-clause-tree : goal.returns-clause-tree
returns-clause-tree c =
    c.into_tree.ensures ∙ ap (λ (r : Rest). r.inside) c.in_ok-built.ensures ∙ ap (λ placed. tree_of (lines_of_marks c.marks.result.now placed)) c.vertices.ensures.all ∙ ap tree_of c.marks.ensures.lines

pub returns-clause-outer : goal.returns-clause-outer
returns-clause-outer c = λ stored fits.
    let plan = c.args.plan.now in
    let lawful = c.vertices.ensures.lawful in
    subst (IsOuter stored 0) (sym (returns-clause-tree c))
    (tree_is_outer stored (tree_of plan) (c.well_placed.ensures plan lawful) (c.stands_well.ensures plan lawful)
    (ap (first_lack stored) (c.trees.ensures.all plan lawful) ∙ fits))
