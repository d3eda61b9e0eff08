use Rattle.std.proofs.Common.{◌≡◌, take}
use Rattle.td_store.specs.standing.Standing.{batches_of}
use Rattle.td_keeper.proofs.keeper.Keeper.opening.Given as goal

abbrev pub invariant-loop-i : goal.invariant-loop-i
invariant-loop-i g l = l.batches.items ≡ batches_of (take l.i l.self-inside.submitted.items)
