use Rattle.std.proofs.Common.{map}
use Rattle.td_core.specs.Taking.{IsReadyAt}
use Rattle.td_core.proofs.take.ready_at.Given as goal

abbrev pub invariant-loop-passed : goal.invariant-loop-passed
invariant-loop-passed l = IsReadyAt l.table (map (λ w. w.0) l.waiting) l._passed l.next
