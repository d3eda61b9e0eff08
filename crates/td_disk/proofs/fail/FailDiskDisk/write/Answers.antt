use Rattle.std.proofs.Common.{rules}
use Rattle.td_disk.proofs.fail.FailDiskDisk.write.Goals as goal

pub returns-in-Ok-clause-gives : goal.returns-in-Ok-clause-gives
returns-in-Ok-clause-gives g c = search rules

pub returns-in_default-clause-gives : goal.returns-in_default-clause-gives
returns-in_default-clause-gives g c = search rules
