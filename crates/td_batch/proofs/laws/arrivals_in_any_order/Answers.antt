use Rattle.td_batch.proofs.AnyOrder.{answer-middle, states-middle, answer_alike, states_alike}
use Rattle.td_batch.proofs.laws.arrivals_in_any_order.Goals as goal

pub returns-clause-sent : goal.returns-clause-sent
returns-clause-sent c = answer-middle c.bags.ensures.append c.joins.ensures.swaps c.bags.ensures.any_place c.sets.ensures.any_place c.groups_in_any_order.ensures

pub returns-clause-states : goal.returns-clause-states
returns-clause-states c = states-middle c.bags.ensures.append c.joins.ensures.swaps c.bags.ensures.any_place c.sets.ensures.any_place c.groups_in_any_order.ensures

pub returns-clause-sent_alike : goal.returns-clause-sent_alike
returns-clause-sent_alike c = answer_alike c.in_any_order.ensures c.groups_of_a_bag.ensures

pub returns-clause-states_alike : goal.returns-clause-states_alike
returns-clause-states_alike c = states_alike c.in_any_order.ensures c.groups_of_a_bag.ensures
