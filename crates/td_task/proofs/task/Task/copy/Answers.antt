use Rattle.std.proofs.Common.{rules}
use Rattle.td_task.proofs.task.Task.copy.Goals as goal

pub returns-clause-same : goal.returns-clause-same
returns-clause-same c = search rules
