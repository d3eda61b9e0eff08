use Rattle.std.proofs.Common.{rules}
use Rattle.td_disk.proofs.fuse.FuseDiskDisk.write.Goals as goal

pub returns-in-Ok-clause-gives : goal.returns-in-Ok-clause-gives
returns-in-Ok-clause-gives g c = search rules
