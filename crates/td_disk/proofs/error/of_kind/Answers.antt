use Rattle.std.proofs.Common.{rules}
use Rattle.td_disk.proofs.error.of_kind.Goals as goal

pub returns-in-OutOfMemory : goal.returns-in-OutOfMemory
returns-in-OutOfMemory c = search rules
