use Rattle.std.proofs.Common.{rules}
use Rattle.td_journal.proofs.payload.is_allowed.Goals as goal

pub returns-else-request-eq0 : goal.returns-else-request-eq0
returns-else-request-eq0 c = search rules
