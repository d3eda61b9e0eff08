use Rattle.std.proofs.Common.{rules}
use Rattle.td_disk.proofs.fuse.FuseDiskDisk.size.Goals as goal

pub returns : goal.returns
returns g c = search rules
