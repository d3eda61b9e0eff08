use Rattle.std.proofs.Common.{rules}
use Rattle.td_disk.proofs.fail.FailDisk.fail_at.Goals as goal

pub returns-clause-left : goal.returns-clause-left
returns-clause-left g c = search rules
