use Rattle.std.proofs.Common.{rules}
use Rattle.td_disk.proofs.memory.MemoryDiskDisk.size.Goals as goal

pub returns : goal.returns
returns c = search rules
