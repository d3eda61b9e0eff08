use Rattle.td_batch.proofs.TurnsSolve.{bag_at-Solves}
use Rattle.td_batch.proofs.laws.turns_solve.Goals as goal

pub returns : goal.returns
returns c = bag_at-Solves
