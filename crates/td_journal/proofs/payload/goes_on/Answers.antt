use Rattle.std.proofs.Common.{rules}
use Rattle.td_journal.proofs.payload.goes_on.Goals as goal

pub returns-in-Some : goal.returns-in-Some
returns-in-Some c = search rules
