use Rattle.std.proofs.Common.{◌≡◌, ◌≤◌, length, take}
use Rattle.td_plan.proofs.vertex.copy_loops.Given as goal

abbrev pub invariant-loop-each : goal.invariant-loop-each
invariant-loop-each l = (l.copied.items ≡ take l.each-index l.loops) × (length l.loops ≤ 3)
