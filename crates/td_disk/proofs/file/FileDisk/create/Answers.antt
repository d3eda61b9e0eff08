use Rattle.std.proofs.Common.{rules}
use Rattle.td_disk.proofs.file.FileDisk.create.Goals as goal

pub returns-clause-size : goal.returns-clause-size
returns-clause-size g c = search rules

pub returns-clause-too_large : goal.returns-clause-too_large
returns-clause-too_large g c = search rules
