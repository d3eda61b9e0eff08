use Rattle.std.proofs.Common.{rules}
use Rattle.td_disk.proofs.memory.leave_write.Goals as goal

pub returns-in-Old : goal.returns-in-Old
returns-in-Old c = search rules
