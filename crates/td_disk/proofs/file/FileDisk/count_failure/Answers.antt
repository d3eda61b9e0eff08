use Rattle.std.proofs.Common.{rules}
use Rattle.td_disk.proofs.file.FileDisk.count_failure.Goals as goal

pub returns-clause-rises : goal.returns-clause-rises
returns-clause-rises c = search rules
