use Rattle.td_journal.proofs.Images.{told_rises}
use Rattle.td_journal.proofs.laws.told_numbers_rise.Goals as goal

pub returns : goal.returns
returns c = told_rises
