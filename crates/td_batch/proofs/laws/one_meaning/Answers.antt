use Rattle.td_batch.proofs.Meanings.{epoch_is_solution}
use Rattle.td_batch.proofs.laws.one_meaning.Goals as goal

pub returns : goal.returns
returns c = epoch_is_solution
