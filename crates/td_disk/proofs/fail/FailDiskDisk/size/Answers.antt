use Rattle.std.proofs.Common.{rules}
use Rattle.td_disk.proofs.fail.FailDiskDisk.size.Goals as goal

pub returns : goal.returns
returns g c = search rules
