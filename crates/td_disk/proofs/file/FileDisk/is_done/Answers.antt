use Rattle.std.proofs.Common.{rules}
use Rattle.td_disk.proofs.file.FileDisk.is_done.Goals as goal

pub returns-in-Err-clause-told : goal.returns-in-Err-clause-told
returns-in-Err-clause-told c = search rules
