use Rattle.std.proofs.Common.{rules}
use Rattle.td_task.proofs.task.Task.new.Goals as goal

pub returns : goal.returns
returns c = search rules
