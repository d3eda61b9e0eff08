use Rattle.std.proofs.Common.{rules}
use Rattle.td_disk.proofs.file.FileDisk.new.Goals as goal

pub returns-clause-failures : goal.returns-clause-failures
returns-clause-failures c = search rules
