use Rattle.std.proofs.Common.{rules}
use Rattle.td_journal.proofs.journal.Journal.keep.Goals as goal

pub returns : goal.returns
returns c = search rules
