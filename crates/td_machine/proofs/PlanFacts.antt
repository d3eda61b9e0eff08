-- What holds of each plan without faults: where its edges stand, which times they lead to, and that none leads back.
use Rattle.std.specs.Prelude.{◌≡◌, ℕ, ◌<◌, true, List, [], Some, slice_get}
use Rattle.std.specs.List.{AllByRecursion, enumerate_from}
use Rattle.td_stamp.specs.Time.{Timestamp}
use Rattle.td_plan.specs.declared.vertex.Kind.TheVariants.{Input, Fold, Output}
use Rattle.td_plan.specs.declared.vertex.Edge.{Edge}
use Rattle.td_plan.specs.Lines.{Line}
use Rattle.td_plan.specs.Inputs.{is_input_of}
use Rattle.td_plan.specs.Tree.{size, tree_of}
use Rattle.td_plan.specs.Blocks.{PlacedVertex, vertices, bounds, reading_loops, reading_loops_at, read_loops_at, edges, edge_at}
use Rattle.td_calls.specs.Callbacks.{is_notified}
use Rattle.td_batch.specs.Flow.{AreBelow}
use Rattle.td_reach.specs.declared.stamp.Place.TheVariants as places
use Rattle.td_reach.specs.Paths.{Could}
use Rattle.td_machine.specs.Active.{kind_of, bound_of, stamp_at}
use Rattle.td_machine.specs.Steps.{sending_times}

-- the counters are those of a turn of the block on which a vertex reads
abbrev pub InTurn : List Line → ℕ → Timestamp → Type 0
InTurn plan v t = AreBelow t.turns (bounds (reading_loops_at plan v))

-- an edge stands at its number
abbrev pub IsFound : List Line → Edge → Type 0
IsFound plan e = slice_get (edges plan) (edge_at plan e.reader e.port) ≡ Some e

-- what its source sends in a turn comes in a turn of its reader
abbrev pub LeadsOn : List Line → Edge → Type 0
LeadsOn plan e = (t : Timestamp) → InTurn plan e.source t → AllByRecursion (InTurn plan e.reader) (sending_times (kind_of plan e.source) (bound_of plan e.source) t)

-- what a group or a fold sends does not come back to it at the same time
abbrev pub LeadsAway : List Line → Edge → Type 0
LeadsAway plan e = (t : Timestamp) → InTurn plan e.source t → is_notified (kind_of plan e.source) ≡ true → Could plan (record { time = t; place = places.Edge (edge_at plan e.reader e.port) }) (stamp_at e.source t) → ⊥

-- each source of a vertex, by port, is read in the loops in which the vertex reads
abbrev pub AreReadThere : List Line → PlacedVertex → Type 0
AreReadThere plan p = AllByRecursion (λ s. read_loops_at plan s.1 ≡ Some (reading_loops p.vertex.kind p.loops)) (enumerate_from 0 p.vertex.sources)

pub record PlanFacts (plan : List Line) : Type 0 where
  pub found : AllByRecursion (IsFound plan) (edges plan)
  pub on : AllByRecursion (LeadsOn plan) (edges plan)
  pub read : AllByRecursion (AreReadThere plan) (vertices plan)
  pub away : AllByRecursion (LeadsAway plan) (edges plan)
  -- inputs and folds stand outside loops (a number without a vertex counts as an input), and a batch names inputs
  pub inputs : (v : ℕ) → kind_of plan v ≡ Input → reading_loops_at plan v ≡ []
  pub folds : (v code : ℕ) → kind_of plan v ≡ Fold code → reading_loops_at plan v ≡ []
  pub outputs : (v : ℕ) → kind_of plan v ≡ Output → (reading_loops_at plan v ≡ []) × (v < size (tree_of plan))
  pub few : (v code : ℕ) → kind_of plan v ≡ Fold code → v < size (tree_of plan)
  pub accepted : (v : ℕ) → is_input_of plan v ≡ true → kind_of plan v ≡ Input
