use Rattle.td_calls.proofs.Arrivals.{on_one, on_several, on_one_more}
use Rattle.td_calls.proofs.laws.arrivals.Goals as goal

pub returns-clause-one : goal.returns-clause-one
returns-clause-one c = on_one c.member_order.ensures.total c.member_order.ensures.told_apart c.bags.ensures.append c.groups_in_any_order.ensures

pub returns-clause-several : goal.returns-clause-several
returns-clause-several c = on_several c.member_order.ensures.total c.member_order.ensures.told_apart c.bags.ensures.append c.groups_in_any_order.ensures c.joins.ensures.associative

pub returns-clause-one_more : goal.returns-clause-one_more
returns-clause-one_more c = on_one_more c.member_order.ensures.total c.member_order.ensures.told_apart c.bags.ensures.append c.groups_in_any_order.ensures
