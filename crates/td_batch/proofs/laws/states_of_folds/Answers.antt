use Rattle.td_batch.proofs.Folds.{kept-by-folds}
use Rattle.td_batch.proofs.laws.states_of_folds.Goals as goal

pub returns : goal.returns
returns g c = λ plan states batches lawful h. kept-by-folds g.L.Law.answers plan states batches (c.trees.ensures.all plan lawful) h
