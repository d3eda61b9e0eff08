use Rattle.std.proofs.Common.{◌≡◌, ◌≤◌, length, take}
use Rattle.td_plan.proofs.vertex.narrow_sources.Given as goal

abbrev pub invariant-loop-source : goal.invariant-loop-source
invariant-loop-source l = (l.narrow.items ≡ take l.source-index l.sources) × (length l.sources ≤ 8)
