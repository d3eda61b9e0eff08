-- A batch that is released, input by input.
use Rattle.std.specs.Prelude.{◌≡◌, ℕ, ◌+◌, ◌*◌, ◌<◌, List, [], ◌∷◌, ◌++◌, map, length}
use Rattle.std.specs.VecDeque.{deque_len, deque_capacity}
use Rattle.td_stamp.specs.declared.values.Rec.{Rec}
use Rattle.td_stamp.specs.declared.values.Entry.{Entry}
use Rattle.td_stamp.specs.Batch.{records_for}
use Rattle.td_stamp.specs.Time.{Timestamp}
use Rattle.td_progress.specs.Bag.{IsSameBag, input_stamp}
use Rattle.td_machine.specs.declared.records.Message.{Message}
use Rattle.td_machine.specs.Steps.{posts, entered}
use Rattle.td_machine.specs.Moves.{come_released}
use Rattle.td_shard.specs.declared.shard.Shard.{Shard}
use Rattle.td_core.specs.declared.hall.Parts.{Parts}
use Rattle.td_core.specs.declared.post.Change.{Change}
use Rattle.td_core.specs.declared.release.Load.{Load}
use Rattle.td_core.specs.declared.hall.Routes.{Routes}
use Rattle.td_core.specs.Parts.{state_of}
use Rattle.td_core.specs.Posted.{IsPosted, IsRoomier, HaveRoomFor, count_of, runs_of, stamp_on_outlet}
use Rattle.td_shard.specs.Messages.{on_each}
use Rattle.td_core.specs.Routes.{outlets_in}

-- an input with the records that a batch gives it
abbrev pub load_of : Load → ℕ × List Rec
load_of load = (load.input, load.recs.items)

-- those of some inputs
abbrev pub loads_in : List ℕ → List Entry → List (ℕ × List Rec)
loads_in inputs batch = map (λ i. (i, records_for i batch)) inputs

-- the time at which an epoch begins
abbrev pub start_of : ℕ → Timestamp
start_of epoch = record { epoch = epoch; turns = [] }

-- how many messages of loads come to a shard, and how many runs they make at most
abbrev pub messages_in : Routes → ℕ → List (ℕ × List Rec) → ℕ → ℕ
messages_in routes workers [] s = 0
messages_in routes workers (load ∷ loads) s = count_of workers load.1 s * length (outlets_in routes load.0) + messages_in routes workers loads s

abbrev pub runs_in : Routes → ℕ → List (ℕ × List Rec) → ℕ → ℕ
runs_in routes workers [] s = 0
runs_in routes workers (load ∷ loads) s = runs_of workers load.1 (length (outlets_in routes load.0)) s + runs_in routes workers loads s

-- room for loads on each edge out of their inputs
abbrev pub HaveRoomForLoads : Routes → List (ℕ × List Rec) → List Shard → Type 0
HaveRoomForLoads routes loads shards = HaveRoomFor (runs_in routes (length shards) loads) (messages_in routes (length shards) loads) shards

-- the messages: on each edge out of its input one of each record
abbrev pub messages_of : Routes → ℕ → ℕ × List Rec → List Message
messages_of routes epoch load = on_each (outlets_in routes load.0) (start_of epoch) load.1

-- what occurs more often: these messages, and their input at the next epoch
abbrev pub changes_of : Routes → ℕ → ℕ × List Rec → List Change
changes_of routes epoch load = map (λ o. record { stamp = stamp_on_outlet (start_of epoch) o; times = length load.1 }) (outlets_in routes load.0)
    ++ record { stamp = input_stamp (epoch + 1) load.0; times = 1 } ∷ []

-- A BATCH IS IN, but for its own place among the batches, for which there is room
pub record IsIn (batch : List Entry) (parts new : Parts) : Type 0 where
  pub fields : new ≡ record parts { table = new.table; shards = new.shards; batches = new.batches; next = parts.next + 1 }
  pub posted : IsPosted (posts parts.table.plan (map (entered parts.next) batch)) parts.shards.items new.shards.items
  pub plan : new.table.plan ≡ parts.table.plan
  -- its messages and the inputs of the next epoch are active, and the inputs of its own are not
  pub stamps : IsSameBag (come_released (state_of parts) batch ++ parts.table.stamps) (map (input_stamp parts.next) parts.inputs.items ++ new.table.stamps)
  pub batches : new.batches.items ≡ parts.batches.items
  pub room : deque_len new.batches < deque_capacity new.batches

-- NOTHING IS IN: there is but more room
pub record IsAsBefore (parts new : Parts) : Type 0 where
  pub fields : new ≡ record parts { table = new.table; shards = new.shards; batches = new.batches }
  pub roomier : IsRoomier parts.shards.items new.shards.items
  pub plan : new.table.plan ≡ parts.table.plan
  pub stamps : IsSameBag new.table.stamps parts.table.stamps
  pub batches : new.batches.items ≡ parts.batches.items
