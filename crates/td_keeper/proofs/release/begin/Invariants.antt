use Rattle.td_store.specs.standing.Standing.{batches_of}
use Rattle.td_keeper.proofs.Beginning.{Found}
use Rattle.td_keeper.proofs.release.begin.Given as goal

abbrev pub invariant-loop-at : goal.invariant-loop-at
invariant-loop-at l = Found l.batches.items (batches_of l.submitted.items) l.past l.at
