use Rattle.std.proofs.Common.{rules}
use Rattle.td_disk.proofs.memory.MemoryDisk.new.Goals as goal

pub returns-clause-zeros : goal.returns-clause-zeros
returns-clause-zeros c = search rules
