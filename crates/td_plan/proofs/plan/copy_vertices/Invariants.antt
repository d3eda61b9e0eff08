use Rattle.std.proofs.Common.{◌≡◌, take}
use Rattle.td_plan.proofs.plan.copy_vertices.Given as goal

abbrev pub invariant-loop-vertex : goal.invariant-loop-vertex
invariant-loop-vertex l = l.copied.items ≡ take l.vertex-index l.vertices
