use Rattle.td_stamp.specs.Orders.{rec_cmp, arrival_cmp, output_cmp}
use Rattle.td_stamp.specs.ProvedOrders.{rec_total, rec_apart, arrival_total, arrival_apart, output_total, output_apart}
use Rattle.std.specs.Ordering.{nat_cmp}
use Rattle.std.specs.Cmp.{nat_cmp_total}
use Rattle.std.specs.FinMap.{nat_cmp-IsAntisymmetric}
use Rattle.td_machine.specs.State.{message_cmp, stamped_cmp, notification_cmp, output_at_cmp, left_cmp}
use Rattle.td_machine.proofs.Orders.{message_total, message_apart, stamped_total, stamped_apart, notification_total, notification_apart, output_at_total, output_at_apart, left_total, left_apart}
use Rattle.td_machine.proofs.laws.laws_below.Goals as goal

pub returns : goal.returns
returns c = record {
  messages = c.bags_by_any_order.ensures message_cmp message_total message_apart;
  stamped = c.bags_by_any_order-2.ensures stamped_cmp stamped_total stamped_apart;
  left = c.bags_by_any_order-3.ensures left_cmp left_total left_apart;
  outputs_at = c.bags_by_any_order-4.ensures output_at_cmp output_at_total output_at_apart;
  outputs = c.bags_by_any_order-5.ensures output_cmp output_total output_apart;
  recs = c.bags_by_any_order-6.ensures rec_cmp rec_total rec_apart;
  arrivals = c.bags_by_any_order-7.ensures arrival_cmp arrival_total arrival_apart;
  notifications = c.sets_by_any_order.ensures notification_cmp notification_total notification_apart;
  rec_sets = c.sets_by_any_order-2.ensures rec_cmp rec_total rec_apart;
  number_sets = c.sets_by_any_order-3.ensures nat_cmp nat_cmp_total nat_cmp-IsAntisymmetric;
  groups_middle = λ xs a ys. c.groups_in_any_order.ensures xs ys a;
  groups_of_bag = c.groups_of_a_bag.ensures;
  numbered = c.trees.ensures.numbers;
  placed = c.well_placed.ensures;
  in_order = c.trees.ensures.all;
  many = c.trees.ensures.size;
  kinds_stand = c.stands_at.ensures.kind;
  bounds_stand = c.stands_at.ensures.bounds;
  read_there = c.read_there.ensures;
  edge_numbers = c.edges_by_number.ensures.number;
  edge_sources = c.edges_by_number.ensures.source;
  laid = c.laid.ensures;
  no_way_back = c.could_order.ensures.no_way_back;
  epochs = c.could_order.ensures.epochs;
  some_least = c.some_least.ensures;
  answer_alike = c.arrivals_in_any_order.ensures.sent_alike;
  one_meaning = c.one_meaning.ensures;
  turns_solve = c.turns_solve.ensures;
  one_flow = c.one_flow.ensures;
}
