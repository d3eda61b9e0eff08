use Rattle.std.proofs.Common.{◌≡◌, length, ◌∙◌, sym, ap, subst, arith}
use Rattle.std.proofs.lemmas.List.{with_items_is}
use Rattle.td_stamp.specs.Bag.{IsBag, bag_of}
use Rattle.td_stamp.specs.Orders.{arrival_cmp}
use Rattle.td_task.proofs.keyed.KeyedItems.grouped.Goals as goal

pub of_runs-requires-2 : goal.of_runs-requires-2
of_runs-requires-2 c =
    let long : length c.sort.new.members ≡ c.in_ok-sorted.sorted.len = omega (arith, c.sort.auto.members, c.as_mut_slice.ensures.len, c.in_ok-sorted.sorted.ok) in
    let is = c.as_slice.ensures.value ∙ with_items_is c.in_ok-sorted.sorted c.sort.new.members long ∙ c.sort.ensures in
    subst (IsBag arrival_cmp) (sym is) (c.bags.ensures.gives_a_bag c.as_mut_slice.result.now)
