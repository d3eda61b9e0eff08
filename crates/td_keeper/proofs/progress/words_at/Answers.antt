use Rattle.std.proofs.Common.{rules}
use Rattle.td_keeper.proofs.progress.words_at.Goals as goal

pub returns : goal.returns
returns c = search rules
