use Rattle.std.proofs.Common.{rules}
use Rattle.td_words.proofs.parse.job_of.Goals as goal

pub returns-in-show-clause-some : goal.returns-in-show-clause-some
returns-in-show-clause-some c = search rules
