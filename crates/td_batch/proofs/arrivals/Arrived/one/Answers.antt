use Rattle.td_batch.proofs.InOrder.{one_in_order}
use Rattle.td_batch.proofs.arrivals.Arrived.one.Goals as goal

pub returns-clause-in_order : goal.returns-clause-in_order
returns-clause-in_order c = one_in_order c.args.bag.now c.list.ensures.sorted
