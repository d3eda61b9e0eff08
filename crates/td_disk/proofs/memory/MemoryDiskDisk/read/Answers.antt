use Rattle.std.proofs.Common.{rules}
use Rattle.td_disk.proofs.memory.MemoryDiskDisk.read.Goals as goal

pub returns-clause-read : goal.returns-clause-read
returns-clause-read c = search rules
