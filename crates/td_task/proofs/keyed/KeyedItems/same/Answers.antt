use Rattle.std.proofs.Common.{◌≡◌, ap, sym, ◌∙◌}
use Rattle.td_task.specs.KeyLists.{with_items}
use Rattle.td_task.proofs.KeysWithItems.{same_keys, same_items}
use Rattle.td_task.proofs.keyed.KeyedItems.same.Goals as goal

pub returns-then-same_keys : goal.returns-then-same_keys
returns-then-same_keys c =
    let keys : c.self.inside.keys.items ≡ c.other.inside.keys.items =
    sym c.as_slice.ensures.value ∙ c.same_keys.ensures.0 c.if-same_keys.true ∙ c.as_slice-2.ensures.value in (
      λ h. sym c.self.view_is ∙ ap (λ k. with_items k c.self.inside.items.lists) keys ∙ ap (with_items c.other.inside.keys.items) (c.same.ensures.0 h) ∙ c.other.view_is,
      λ e.
          c.same.ensures.1 (same_items c.self.inside.keys.items c.other.inside.keys.items c.self.inside.items.lists c.other.inside.items.lists c.self.invariant c.other.invariant
          (c.self.view_is ∙ e ∙ sym c.other.view_is)),
    )

pub returns-else-same_keys : goal.returns-else-same_keys
returns-else-same_keys c = (
  λ h. let k = sym c.if-same_keys.false ∙ h in cc,
  λ e.
      c.same_keys.ensures.1 (c.as_slice.ensures.value
      ∙ same_keys c.self.inside.keys.items c.other.inside.keys.items c.self.inside.items.lists c.other.inside.items.lists c.self.invariant c.other.invariant (c.self.view_is ∙ e ∙ sym c.other.view_is)
      ∙ sym c.as_slice-2.ensures.value),
)
