use Rattle.std.proofs.Common.{rules}
use Rattle.td_task.proofs.run.Done.sent.Goals as goal

pub returns : goal.returns
returns g c = search rules
