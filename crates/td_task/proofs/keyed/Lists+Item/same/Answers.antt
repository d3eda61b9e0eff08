use Rattle.std.proofs.Common.{◌≡◌, ap, sym, ◌∙◌}
use Rattle.td_task.specs.Cuts.{cut}
use Rattle.td_task.proofs.CutLists.{same_ends, same_members}
use Rattle.td_task.proofs.keyed.Lists+Item.same.Goals as goal

pub returns-then-same_ends : goal.returns-then-same_ends
returns-then-same_ends c =
    let own = ap (λ v. v.lists) c.self.view_is in
    let others = ap (λ v. v.lists) c.other.view_is in
    let ends : c.self.inside.ends.items ≡ c.other.inside.ends.items =
    sym c.as_slice.ensures.value ∙ c.same_ends.ensures.0 c.if-same_ends.true ∙ c.as_slice-2.ensures.value in (
      λ h.
          let all : c.self.inside.all.items ≡ c.other.inside.all.items =
          sym c.as_slice-then-same_ends.ensures.value ∙ c.same_items.ensures.0 h ∙ c.as_slice-then-same_ends-2.ensures.value in
          sym own ∙ ap (λ e. cut 0 e c.self.inside.all.items) ends ∙ ap (cut 0 c.other.inside.ends.items) all ∙ others,
      λ e.
          c.same_items.ensures.1 (c.as_slice-then-same_ends.ensures.value
          ∙ same_members c.self.inside.ends.items c.other.inside.ends.items c.self.inside.all.items c.other.inside.all.items c.self.invariant c.other.invariant (own ∙ e ∙ sym others)
          ∙ sym c.as_slice-then-same_ends-2.ensures.value),
    )

pub returns-else-same_ends : goal.returns-else-same_ends
returns-else-same_ends c =
    let own = ap (λ v. v.lists) c.self.view_is in
    let others = ap (λ v. v.lists) c.other.view_is in (
      λ h. let k = sym c.if-same_ends.false ∙ h in cc,
      λ e.
          c.same_ends.ensures.1 (c.as_slice.ensures.value
          ∙ same_ends c.self.inside.ends.items c.other.inside.ends.items c.self.inside.all.items c.other.inside.all.items c.self.invariant c.other.invariant (own ∙ e ∙ sym others)
          ∙ sym c.as_slice-2.ensures.value),
    )
