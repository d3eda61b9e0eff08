use Rattle.std.proofs.Common.{◌≡◌, ◌≤◌, length, take}
use Rattle.td_plan.proofs.vertex.Vertex.copy.Given as goal

abbrev pub invariant-loop-source : goal.invariant-loop-source
invariant-loop-source l = (l.sources.items ≡ take l.source-index l.source-items) × (length l.source-items ≤ 8)
