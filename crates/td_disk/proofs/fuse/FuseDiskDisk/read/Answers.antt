use Rattle.std.proofs.Common.{rules}
use Rattle.td_disk.proofs.fuse.FuseDiskDisk.read.Goals as goal

pub returns-then-is_err-clause-gives : goal.returns-then-is_err-clause-gives
returns-then-is_err-clause-gives g c = search rules

pub returns-else-is_err-clause-gives : goal.returns-else-is_err-clause-gives
returns-else-is_err-clause-gives g c = search rules
