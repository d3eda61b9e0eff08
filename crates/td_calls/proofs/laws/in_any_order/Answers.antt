use Rattle.td_calls.proofs.AnyOrder.{same_sends}
use Rattle.td_calls.proofs.laws.in_any_order.Goals as goal

pub returns : goal.returns
returns c = same_sends c.bags.ensures.append c.bags-2.ensures.append c.bags-2.ensures.gives_a_bag c.joins.ensures.associative c.bags_of_parts.ensures c.sets.ensures.inserts_swap c.groups_of_a_bag.ensures
