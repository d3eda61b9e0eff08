use Rattle.std.proofs.Common.{◌≡◌}
use Rattle.td_console.specs.Turns.{all_released}
use Rattle.td_console.proofs.hall.release_all.Given as goal

-- the batches so far were released
abbrev pub invariant-loop-batch : goal.invariant-loop-batch
invariant-loop-batch g l = l.hall ≡ all_released l.fn.hall l.yielded
