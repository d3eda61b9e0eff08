-- What vertices sent, by the times that their records bear: a flow, for each epoch.
use Rattle.std.specs.Prelude.{◌≡◌, ℕ, ◌==◌, List, [], ◌∷◌, map, flat_map, filter, if◌then◌else◌}
use Rattle.std.specs.List.{enumerate_from}
use Rattle.td_stamp.specs.declared.values.Rec.{Rec}
use Rattle.td_stamp.specs.Orders.{rec_cmp}
use Rattle.td_stamp.specs.Time.{Timestamp}
use Rattle.td_stamp.specs.Bag.{bag_of}
use Rattle.td_plan.specs.declared.vertex.Edge.{Edge}
use Rattle.td_plan.specs.Lines.{Vertex, Line}
use Rattle.td_plan.specs.Blocks.{edges, bounds, reading_loops_at}
use Rattle.td_plan.specs.Laid.{read_bounds}
use Rattle.td_plan.specs.Tree.{Nodes}
use Rattle.td_plan.specs.Tree.Nodes.{done, node, block}
use Rattle.td_batch.specs.Flow.{Flow}
use Rattle.td_machine.specs.declared.records.Stamped.{Stamped}
use Rattle.td_machine.specs.State.{same_time}
use Rattle.td_machine.specs.Active.{kind_of, bound_of}
use Rattle.td_machine.specs.Steps.{sending_times}

-- a record, where it is of this time
abbrev pub at_time : Timestamp → Rec → Timestamp → List Rec
at_time t r later = if same_time later t then r ∷ [] else []

-- what a vertex sends to a time, of a record that it answers
abbrev pub sent_to : List Line → ℕ → Timestamp → Stamped → List Rec
sent_to plan u t x = if u == x.vertex then flat_map (at_time t x.rec) (sending_times (kind_of plan x.vertex) (bound_of plan x.vertex) x.time) else []

abbrev pub flow_of : List Line → List Stamped → ℕ → Flow
flow_of plan sent e u counters = bag_of rec_cmp (flat_map (sent_to plan u (record { epoch = e; turns = counters })) sent)

-- OF EACH PLAN: where the vertices of its tree stand. The vertex is found by its number, the edges to it are those of its
-- sources, by port, and it reads in the loops around it
abbrev pub edge_to : ℕ → ℕ × ℕ → Edge
edge_to v p = record { source = p.1; reader = v; port = p.0 }

abbrev pub innermost_bound : List ℕ → ℕ
innermost_bound [] = 0
innermost_bound (bound ∷ own) = bound

pub record IsLaid (plan : List Line) (own : List ℕ) (v : Vertex) : Type 0 where
  pub kind : kind_of plan v.number ≡ v.kind
  pub into : filter (λ e. e.reader == v.number) (edges plan) ≡ map (edge_to v.number) (enumerate_from 0 v.sources)
  pub reads : bounds (reading_loops_at plan v.number) ≡ read_bounds v.kind own
  pub bound : bound_of plan v.number ≡ innermost_bound own

abbrev pub AreLaid : List Line → List ℕ → Nodes → Type 0
AreLaid plan own done = Unit {0}
AreLaid plan own (node v rest) = IsLaid plan own v × AreLaid plan own rest
AreLaid plan own (block bound body rest) = AreLaid plan (bound ∷ own) body × AreLaid plan own rest
