use Rattle.std.proofs.Common.{rules}
use Rattle.td_journal.proofs.journal.Journal.is_full.Goals as goal

pub returns : goal.returns
returns c = search rules
