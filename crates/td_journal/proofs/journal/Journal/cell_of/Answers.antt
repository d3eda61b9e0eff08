use Rattle.std.proofs.Common.{rules}
use Rattle.td_journal.proofs.journal.Journal.cell_of.Goals as goal

pub returns-clause-region : goal.returns-clause-region
returns-clause-region c = search rules
