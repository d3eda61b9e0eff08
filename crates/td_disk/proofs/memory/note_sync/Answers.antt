use Rattle.std.proofs.Common.{rules}
use Rattle.td_disk.proofs.memory.note_sync.Goals as goal

pub returns-clause-ok : goal.returns-clause-ok
returns-clause-ok c = search rules
