-- Exact work: how many records a run delivers and how many notifications it gives, by the bags of the batch meaning alone.
use Rattle.std.specs.Prelude.{ℕ, ◌==◌, List, [], ◌∷◌, map, flat_map, filter, length, get_or, Option, Some, None}
use Rattle.std.specs.List.{list_any, sum_by}
use Rattle.td_stamp.specs.declared.values.Entry.{Entry}
use Rattle.td_stamp.specs.declared.values.Arrival.{Arrival}
use Rattle.td_stamp.specs.States.{StateList}
use Rattle.td_plan.specs.declared.vertex.Loop.{Loop}
use Rattle.td_plan.specs.declared.vertex.Edge.{Edge}
use Rattle.td_plan.specs.Lines.{Vertex, Line}
use Rattle.td_plan.specs.Blocks.{PlacedVertex, vertices, edges, bounds, reading_loops, read_loops_at}
use Rattle.td_plan.specs.Tree.{tree_of}
use Rattle.td_calls.specs.Answers.{Answers}
use Rattle.td_calls.specs.Callbacks.{arrivals, is_notified}
use Rattle.td_batch.specs.Meaning.{EpochInput, states_after}
use Rattle.td_batch.specs.Flow.{Flow, numbers_from}
use Rattle.td_batch.specs.BagAt.{bag_at}
use Rattle.td_machine.specs.State.{shard_of_key}

-- the turns of a block in loops of these bounds, the innermost first: all counters below them
abbrev pub turns_of : List ℕ → List (List ℕ)
turns_of [] = [] ∷ []
turns_of (bound ∷ bounds) = flat_map (λ k. map (λ counters. k ∷ counters) (turns_of bounds)) (numbers_from 0 bound)

-- the turns of the block on which a vertex is read, if it is
abbrev pub turns_read : Option (List Loop) → List (List ℕ)
turns_read None = []
turns_read (Some loops) = turns_of (bounds loops)

-- of an edge: the sizes of the bags on it in all turns of the block on which its source is read
abbrev pub edge_records : Flow → List Line → Edge → ℕ
edge_records flow plan e = sum_by (λ counters. length (flow e.source counters)) (turns_read (read_loops_at plan e.source))

-- what comes to a vertex in a turn of the block on which it reads, over all edges that lead to it
abbrev pub comes_to : Flow → Vertex → List ℕ → List Arrival
comes_to flow v counters = arrivals (map (λ s. flow s counters) v.sources)

-- the shards at which one of these arrives
abbrev pub shards_of : ℕ → List Arrival → List ℕ
shards_of workers arrived = filter (λ s. list_any (λ a. shard_of_key workers a.key == s) arrived) (numbers_from 0 workers)

-- of a vertex: the shards at which records arrive, in all turns of the block on which it reads
abbrev pub vertex_notes : ℕ → Flow → PlacedVertex → ℕ
vertex_notes workers flow p = sum_by (λ counters. length (shards_of workers (comes_to flow p.vertex counters))) (turns_of (bounds (reading_loops p.vertex.kind p.loops)))

-- the groups and folds of a plan
abbrev pub groupings : List Line → List PlacedVertex
groupings plan = filter (λ p. is_notified p.vertex.kind) (vertices plan)

-- of an epoch: the records on all edges
abbrev pub epoch_records : List Line → EpochInput → ℕ
epoch_records plan epoch = sum_by (edge_records (bag_at epoch (tree_of plan)) plan) (edges plan)

-- and the notifications of all groups and folds
abbrev pub epoch_notes : ℕ → List Line → EpochInput → ℕ
epoch_notes workers plan epoch = sum_by (vertex_notes workers (bag_at epoch (tree_of plan))) (groupings plan)

-- the epochs of a run: each batch, with the states that the run has before it
abbrev pub epochs_of : Answers → List Line → StateList → List (List Entry) → List EpochInput
epochs_of answers plan states batches =
    map (λ m. record { answers = answers; states = states_after answers (tree_of plan) states batches m; batch = get_or batches m [] }) (numbers_from 0 (length batches))

-- DELIVERIES of a run: the records on all edges in all turns
abbrev pub Records : Answers → List Line → StateList → List (List Entry) → ℕ
Records answers plan states batches = sum_by (epoch_records plan) (epochs_of answers plan states batches)

-- and the notifications, one for each group or fold, time and shard at which records arrive
abbrev pub Notes : ℕ → Answers → List Line → StateList → List (List Entry) → ℕ
Notes workers answers plan states batches = sum_by (epoch_notes workers plan) (epochs_of answers plan states batches)
