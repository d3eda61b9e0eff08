-- The input vertices of a plan.
use Rattle.std.specs.Prelude.{ℕ, Bool, false, List, Some, None}
use Rattle.std.specs.List.{slice_get}
use Rattle.td_plan.specs.Lines.{Line}
use Rattle.td_plan.specs.Blocks.{vertices}
use Rattle.td_plan.specs.Faults.{is_input}

-- whether a number is that of an input vertex
abbrev pub is_input_of : List Line → ℕ → Bool
is_input_of plan v = elim (slice_get (vertices plan) v) [ None ↦ false | Some p ↦ is_input p.vertex.kind ]
