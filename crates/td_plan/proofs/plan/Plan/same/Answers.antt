use Rattle.std.proofs.Common.{◌≡◌, map, sym, ap, ◌∙◌}
use Rattle.td_plan.proofs.SamePlans.{bare, plans_same, marks_same, vertices_same}
use Rattle.td_plan.proofs.plan.Plan.same.Goals as goal

pub returns-then-are_same_marks : goal.returns-then-are_same_marks
returns-then-are_same_marks c =
    let marks : c.self.inside.marks.items ≡ c.other.inside.marks.items = sym c.as_slice.ensures.value ∙ c.are_same_marks.ensures.0 c.if-are_same_marks.true ∙ c.as_slice-2.ensures.value in
    let mine = c.as_slice-then-are_same_marks.ensures.value in
    let theirs = c.as_slice-then-are_same_marks-2.ensures.value in (
      (λ t.
          sym c.self.view_is
          ∙ plans_same c.self.inside.marks.items c.other.inside.marks.items c.self.inside.vertices.items c.other.inside.vertices.items marks
          (sym (ap (map bare) mine) ∙ c.are_same_vertices.ensures.0 t ∙ ap (map bare) theirs) ∙ c.other.view_is),
      (λ e.
          c.are_same_vertices.ensures.1
          (ap (map bare) mine
          ∙ vertices_same _ _ c.self.inside.vertices.items c.other.inside.vertices.items c.self.invariant.vertices_are c.other.invariant.vertices_are (c.self.view_is ∙ e ∙ sym c.other.view_is)
          ∙ sym (ap (map bare) theirs))),
    )

pub returns-else-are_same_marks : goal.returns-else-are_same_marks
returns-else-are_same_marks c = (
  (λ t. absurd (let f = c.if-are_same_marks.false in cc)),
  (λ e.
      c.are_same_marks.ensures.1
      (c.as_slice.ensures.value
      ∙ marks_same c.self.inside.marks.items c.other.inside.marks.items c.self.inside.vertices.items c.other.inside.vertices.items c.self.invariant.marked c.other.invariant.marked (c.self.view_is ∙ e ∙ sym c.other.view_is)
      ∙ sym c.as_slice-2.ensures.value)),
)
