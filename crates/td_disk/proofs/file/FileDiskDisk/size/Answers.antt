use Rattle.std.proofs.Common.{rules}
use Rattle.td_disk.proofs.file.FileDiskDisk.size.Goals as goal

pub returns : goal.returns
returns c = search rules
