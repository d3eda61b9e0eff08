use Rattle.std.proofs.Common.{◌≡◌, length}
use Rattle.td_closures.specs.Context.{reading_of}
use Rattle.td_closures.specs.Machine.{run, wanted, whole}
use Rattle.td_closures.proofs.expression.run.Given as goal

abbrev pub invariant-loop-rest : goal.invariant-loop-rest
invariant-loop-rest l = run (wanted whole) l.fn.tokens ≡ run (reading_of l.progress) l.rest

abbrev pub decreases-loop-rest : goal.decreases-loop-rest
decreases-loop-rest l = length l.rest
