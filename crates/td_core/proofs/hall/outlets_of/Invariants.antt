use Rattle.std.proofs.Common.{◌≡◌, take}
use Rattle.td_plan.specs.Blocks.{edges}
use Rattle.td_core.proofs.RouteLists.{outlets_among}
use Rattle.td_core.proofs.hall.outlets_of.Given as goal

abbrev pub invariant-loop-number : goal.invariant-loop-number
invariant-loop-number l = l.outlets.items ≡ outlets_among l.plan l.vertex (take l.number (edges l.plan))
