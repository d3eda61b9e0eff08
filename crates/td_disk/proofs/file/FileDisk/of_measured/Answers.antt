use Rattle.std.proofs.Common.{rules}
use Rattle.td_disk.proofs.file.FileDisk.of_measured.Goals as goal

pub returns-clause-size : goal.returns-clause-size
returns-clause-size c = search rules
