use Rattle.std.proofs.Common.{◌≡◌, take}
use Rattle.td_plan.proofs.plan.narrow.Given as goal

abbrev pub invariant-loop-each : goal.invariant-loop-each
invariant-loop-each l = l.vertices.items ≡ take l.each-index l.standing
