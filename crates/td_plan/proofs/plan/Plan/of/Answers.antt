use Rattle.std.proofs.Common.{◌≡◌, ◌≤◌, sym, ap, ◌∙◌, subst, length}
use Rattle.std.specs.Prelude.{flat_map}
use Rattle.std.specs.List.{list_all}
use Rattle.td_plan.specs.Blocks.{Scope, vertices, edges_to}
use Rattle.td_plan.specs.Faults.{IsPlan}
use Rattle.td_plan.specs.Marks.{lines_of_marks}
use Rattle.td_plan.specs.Steps.Inside.{is_narrow}
use Rattle.td_plan.proofs.Built.{plan_narrow, kept}
use Rattle.td_plan.proofs.plan.Plan.of.Goals as goal

pub narrow-requires : goal.narrow-requires
narrow-requires c =
    let lines = lines_of_marks c.draft.inside.marks.items c.draft.inside.scope.vertices in
    let lawful : IsPlan lines = subst IsPlan (ap (λ d. d.lines) (sym c.draft.view_is)) c.requires in
    let same : c.vertices.result.now ≡ vertices lines = c.vertices.ensures.all ∙ ap (λ (s : Scope). s.vertices) c.draft.invariant.scope_is in
    ap (list_all is_narrow) same ∙ plan_narrow lines lawful (subst (λ vs. length vs ≤ 64) same c.vertices.ensures.few)

pub invariant_of-result : goal.invariant_of-result
invariant_of-result c =
    kept c.draft.inside.marks.items c.in_ok-vertices.vertices.items c.in_ok-edges.edges.items c.draft.inside.loops.items c.draft.inside.scope c.draft.invariant (c.in_ok-vertices.ensures.ok ∙ c.vertices.ensures.all)
    (c.in_ok-edges.ensures.ok ∙ ap (flat_map edges_to) c.as_slice.ensures.value) (subst IsPlan (ap (λ d. d.lines) (sym c.draft.view_is)) c.requires)
    (subst (λ vs. length vs ≤ 64) c.vertices.ensures.all c.vertices.ensures.few)

pub returns-clause-ok : goal.returns-clause-ok
returns-clause-ok c = ap (lines_of_marks c.draft.inside.marks.items) (c.in_ok-vertices.ensures.ok ∙ c.vertices.ensures.all) ∙ ap (λ d. d.lines) c.draft.view_is
