use Rattle.std.proofs.Common.{rules}
use Rattle.td_disk.proofs.fuse.FuseDisk.into_inner.Goals as goal

pub returns : goal.returns
returns g c = search rules
