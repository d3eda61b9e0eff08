use Rattle.std.proofs.Common.{rules}
use Rattle.td_disk.proofs.file.FileDiskDisk.sync.Goals as goal

pub returns-clause-gives : goal.returns-clause-gives
returns-clause-gives c = search rules
