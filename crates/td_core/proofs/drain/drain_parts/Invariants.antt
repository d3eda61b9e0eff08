use Rattle.std.proofs.Common.{◌-◌}
use Rattle.td_machine.specs.Steps.{ends}
use Rattle.td_core.specs.Drained.{IsFurther}
use Rattle.td_core.proofs.drain.drain_parts.Given as goal

abbrev pub invariant-loop-parts : goal.invariant-loop-parts
invariant-loop-parts g l = IsFurther g.L.Law.answers l.fn.parts l.fn.drained l.parts l.drained

abbrev pub decreases-loop-parts : goal.decreases-loop-parts
decreases-loop-parts g l = ends - l.parts.taken
