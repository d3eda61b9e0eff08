use Rattle.td_plan.proofs.Canonical.{words_again}
use Rattle.td_plan.proofs.Spelling.{lines_same}
use Rattle.td_plan.proofs.laws.lines_by_words.Goals as goal

pub returns-clause-apart : goal.returns-clause-apart
returns-clause-apart c = lines_same

pub returns-clause-read_back : goal.returns-clause-read_back
returns-clause-read_back c = words_again
