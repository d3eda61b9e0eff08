use Rattle.td_progress.proofs.Free.{same_frontier, same_passed}
use Rattle.td_progress.proofs.laws.in_any_order.Goals as goal

pub returns-clause-frontier : goal.returns-clause-frontier
returns-clause-frontier c = same_frontier

pub returns-clause-passed : goal.returns-clause-passed
returns-clause-passed c = same_passed
