use Rattle.std.proofs.Common.{rules}
use Rattle.td_disk.proofs.fuse.FuseDiskDisk.sync.Goals as goal

pub returns-in-Ok-clause-gives : goal.returns-in-Ok-clause-gives
returns-in-Ok-clause-gives g c = search rules

pub returns-in-Err-clause-gives : goal.returns-in-Err-clause-gives
returns-in-Err-clause-gives g c = search rules
