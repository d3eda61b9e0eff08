use Rattle.std.proofs.Common.{◌∙◌, refl, ap, sym}
use Rattle.td_stamp.specs.Bag.{bag_of}
use Rattle.td_stamp.proofs.Sorted.{sorted_is_bag}
use Rattle.td_stamp.proofs.bag.sort.Goals as goal
use Rattle.td_stamp.proofs.bag.sort.Goals.{else-not-is_in_order-via-then-not-is_in_order+else-not-sort_as_numbers, else-not-is_in_order-via-else-not-is_in_order}

pub returns-then-not-sort_as_numbers : goal.returns-then-not-sort_as_numbers
returns-then-not-sort_as_numbers g c =
    sorted_is_bag g.T.Ord.cmp g.met.T.Ord.total g.met.T.Member.told_apart c.sort_as_numbers.new.members c.sort_unstable.new.self c.sort_unstable.ensures.permutation c.sort_unstable.ensures.sorted
    ∙ ap (bag_of g.T.Ord.cmp) c.if-not-sort_as_numbers.ensures

pub returns-else-not-is_in_order : goal.returns-else-not-is_in_order
returns-else-not-is_in_order g c = elim c.else-not-is_in_order.branch [
  | else-not-is_in_order-via-then-not-is_in_order+else-not-sort_as_numbers w ↦ w.members-is ∙ w.if-not-sort_as_numbers.ensures
  | else-not-is_in_order-via-else-not-is_in_order w ↦ w.members-is ∙ sym (w.if-not-is_in_order.ensures.0 refl)
]
