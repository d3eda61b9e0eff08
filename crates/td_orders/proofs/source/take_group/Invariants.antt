use Rattle.std.proofs.Common.{◌≡◌, ◌≤◌, ◌++◌, List, [], length, true}
use Rattle.std.specs.Prelude.{Some}
use Rattle.td_journal.specs.Numbers.{greatest}
use Rattle.td_store.specs.group.Groups.{may_follow}
use Rattle.td_orders.specs.declared.order.Order.{Order}
use Rattle.td_orders.specs.Orders.{submissions, notes_in}
use Rattle.td_orders.specs.Scripts.{AllFit, HaveNoPlace, SeeNothing}
use Rattle.td_orders.proofs.source.take_group.Given as goal

-- the first orders were taken, and their epochs stand in the group
abbrev pub invariant-loop-epoch : goal.invariant-loop-epoch
invariant-loop-epoch l = record {
  taken : (taken : List Order) × (l.fn.orders.items ≡ taken ++ l.orders.items) × (submissions taken ≡ l.group.items) × (notes_in taken ≡ []) × HaveNoPlace taken × SeeNothing taken;
  none : l.group.items ≡ [] → l.orders.items ≡ l.fn.orders.items;
  rising : may_follow (Some l.room.last) l.group.items ≡ true;
  last : l.last ≡ greatest l.room.last l.group.items;
  few : length l.group.items ≤ l._epoch;
  fits : AllFit l.room l.group.items;
}
