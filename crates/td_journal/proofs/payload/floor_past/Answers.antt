use Rattle.std.proofs.Common.{rules}
use Rattle.td_journal.proofs.payload.floor_past.Goals as goal

pub returns-in-Some : goal.returns-in-Some
returns-in-Some c = search rules
