-- What the look-ups by number find.
use Rattle.std.specs.Prelude.{◌≡◌, ℕ, List, Some}
use Rattle.std.specs.List.{slice_get}
use Rattle.td_plan.specs.Lines.{Line}
use Rattle.td_plan.specs.Blocks.{PlacedVertex, kind_at, sources_at, loops_at, reading_loops_at, read_loops_at, bound_at, bounds, reading_loops, read_loops, edges, edge_at}

-- the look-ups by this number speak of this vertex, which has it
pub record IsLookedUp (plan : List Line) (v : ℕ) (p : PlacedVertex) : Type 0 where
  pub number : p.vertex.number ≡ v
  pub kind : kind_at plan v ≡ Some p.vertex.kind
  pub sources : sources_at plan v ≡ p.vertex.sources
  pub loops : loops_at plan v ≡ p.loops
  pub bound : bound_at plan v ≡ slice_get (bounds p.loops) 0
  pub reads_on : reading_loops_at plan v ≡ reading_loops p.vertex.kind p.loops
  pub read_on : read_loops_at plan v ≡ read_loops p.vertex.kind p.loops

-- at this port of this vertex stands the number of this source
abbrev pub IsSourceAt : List Line → ℕ → ℕ → ℕ → Type 0
IsSourceAt plan reader port source = slice_get (sources_at plan reader) port ≡ Some source

-- the edge that `edge_at` finds leads there from this source
abbrev pub IsEdgeAt : List Line → ℕ → ℕ → ℕ → Type 0
IsEdgeAt plan reader port source = slice_get (edges plan) (edge_at plan reader port) ≡ Some (record { source = source; reader = reader; port = port })
