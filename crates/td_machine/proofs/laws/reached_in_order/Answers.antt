use Rattle.td_machine.proofs.InOrder.{lists_in_order, tasks_in_order, numbers_in_order}
use Rattle.td_machine.proofs.laws.reached_in_order.Goals as goal

pub returns-clause-lists : goal.returns-clause-lists
returns-clause-lists g c = lists_in_order c.laws_below.ensures g.L.Law.answers

pub returns-clause-tasks : goal.returns-clause-tasks
returns-clause-tasks g c = tasks_in_order c.laws_below.ensures g.L.Law.answers

pub returns-clause-numbers : goal.returns-clause-numbers
returns-clause-numbers g c = numbers_in_order c.laws_below.ensures g.L.Law.answers
