-- Where the sources of the vertices of a plan are read.
use Rattle.std.specs.Prelude.{◌≡◌, true, false, List, [], ◌∷◌, ◌++◌}
use Rattle.std.specs.List.{list_all}
use Rattle.td_plan.specs.Blocks.{PlacedVertex, reading_loops, is_source_on}
use Rattle.td_plan.specs.Faults.{is_feedback}

-- each source of a vertex, but for a feedback, is that of one of these vertices which is read on the block where the vertex reads
abbrev pub ReadsAmong : List PlacedVertex → PlacedVertex → Type 0
ReadsAmong before p = is_feedback p.vertex.kind ≡ false → list_all (is_source_on (reading_loops p.vertex.kind p.loops) before) p.vertex.sources ≡ true

-- each vertex reads among those before it, where these come before them all
abbrev pub ReadEarlier : List PlacedVertex → List PlacedVertex → Type 0
ReadEarlier before [] = Unit {0}
ReadEarlier before (p ∷ ps) = ReadsAmong before p × ReadEarlier (before ++ p ∷ []) ps
