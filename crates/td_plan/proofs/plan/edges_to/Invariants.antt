use Rattle.std.proofs.Common.{◌≡◌, take}
use Rattle.std.specs.Prelude.{flat_map}
use Rattle.td_plan.specs.Blocks.{edges_to}
use Rattle.td_plan.proofs.plan.edges_to.Given as goal

abbrev pub invariant-loop-vertex : goal.invariant-loop-vertex
invariant-loop-vertex l = l.edges.items ≡ flat_map edges_to (take l.vertex-index l.vertices)
