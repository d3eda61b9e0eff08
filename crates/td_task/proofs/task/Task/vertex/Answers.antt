use Rattle.std.proofs.Common.{rules}
use Rattle.td_task.proofs.task.Task.vertex.Goals as goal

pub returns : goal.returns
returns c = search rules
