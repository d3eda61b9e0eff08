use Rattle.std.proofs.Common.{rules}
use Rattle.td_task.proofs.task.Task.run.Goals as goal

pub returns-in-Some-clause-refused : goal.returns-in-Some-clause-refused
returns-in-Some-clause-refused g c = search rules
