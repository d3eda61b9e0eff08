use Rattle.std.proofs.Common.{◌-◌}
use Rattle.td_machine.specs.Steps.{ends}
use Rattle.td_core.specs.Drained.{IsFurther}
use Rattle.td_core.proofs.drain.clear.Given as goal

abbrev pub invariant-loop-delivered : goal.invariant-loop-delivered
invariant-loop-delivered g l = IsFurther g.L.Law.answers l.fn.parts l.fn.drained l.parts l.drained

abbrev pub decreases-loop-delivered : goal.decreases-loop-delivered
decreases-loop-delivered g l = ends - l.parts.taken
