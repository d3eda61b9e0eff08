-- What a vertex sends in answer to a time, edge by edge in place of record by record, and other parts of a task at once.
use Rattle.std.specs.Prelude.{◌≡◌, true, ℕ, ◌<◌, List, [], map, flat_map, replicate, length}
use Rattle.std.specs.List.{AllByRecursion}
use Rattle.td_stamp.specs.declared.values.Rec.{Rec}
use Rattle.td_stamp.specs.declared.values.Entry.{Entry}
use Rattle.td_stamp.specs.Batch.{records_for}
use Rattle.td_stamp.specs.Bag.{join, set_insert}
use Rattle.td_stamp.specs.Groups.{arrival_of}
use Rattle.td_stamp.specs.Time.{Timestamp}
use Rattle.td_plan.specs.declared.vertex.Edge.{Edge}
use Rattle.td_plan.specs.declared.vertex.Kind.{Kind}
use Rattle.td_plan.specs.declared.vertex.Kind.TheVariants.{Output as output}
use Rattle.td_plan.specs.Blocks.{edges, edge_at}
use Rattle.td_plan.specs.Faults.{IsPlan}
use Rattle.td_plan.specs.Lines.{Line}
use Rattle.td_reach.specs.declared.stamp.Place.TheVariants as places
use Rattle.td_reach.specs.declared.stamp.Stamp.{Stamp}
use Rattle.td_machine.specs.declared.records.Message.{Message}
use Rattle.td_machine.specs.declared.records.OutputAt.{OutputAt}
use Rattle.td_machine.specs.State.{HallState, message_cmp, notification_cmp, shard_of_key, asked_of}
use Rattle.td_machine.specs.Active.{kind_of, bound_of}
use Rattle.td_machine.specs.Steps.{accepts, entered, posts, stamped, coming, comes_out, edges_from, sending_times, asked_at, with_asked, waiting}
use Rattle.td_machine.specs.Moves.{AreAlike, stamps_of}

-- the times at which a vertex sends what it was given at a time
abbrev pub times_from : List Line → ℕ → Timestamp → List Timestamp
times_from plan v t = sending_times (kind_of plan v) (bound_of plan v) t

-- some records, on each edge out of a vertex
abbrev pub on_edges : List Line → ℕ → List Rec → Timestamp → List Message
on_edges plan v recs later = flat_map (λ e. coming e.reader e.port later recs) (edges_from plan v)

-- THE MESSAGES of records that a vertex sends in answer to a time, edge by edge
abbrev pub posts_by_edge : List Line → ℕ → Timestamp → List Rec → List Message
posts_by_edge plan v t recs = flat_map (on_edges plan v recs) (times_from plan v t)

-- they are those of the records, one by one
abbrev pub PostsByEdge : Type 0
PostsByEdge = (plan : List Line) (v : ℕ) (t : Timestamp) (recs : List Rec) (others : List Message)
    → join message_cmp (posts plan (stamped v t recs)) others ≡ join message_cmp (posts_by_edge plan v t recs) others

-- the pointstamp of messages on an edge
abbrev pub stamp_on : List Line → Timestamp → Edge → Stamp
stamp_on plan t e = record { time = t; place = places.Edge (edge_at plan e.reader e.port) }

-- THEIR POINTSTAMPS, edge by edge: on each edge as many as there are records
abbrev pub stamps_by_edge : List Line → ℕ → Timestamp → ℕ → List Stamp
stamps_by_edge plan v t many = flat_map (λ later. flat_map (λ e. replicate many (stamp_on plan later e)) (edges_from plan v)) (times_from plan v t)

-- they are those of the records, one by one
abbrev pub StampsByEdge : Type 0
StampsByEdge = (plan : List Line) (v : ℕ) (t : Timestamp) (recs : List Rec)
    → AreAlike (stamps_of plan (posts plan (stamped v t recs))) (stamps_by_edge plan v t (length recs))

-- THE MESSAGES OF A BATCH at its epoch, edge by edge
abbrev pub batch_by_edge : List Line → ℕ → List Entry → List Message
batch_by_edge plan epoch batch = flat_map (λ e. coming e.reader e.port (record { epoch = epoch; turns = [] }) (records_for e.source batch)) (edges plan)

-- they are those of its entries, one by one
abbrev pub BatchByEdge : Type 0
BatchByEdge = (plan : List Line) (epoch : ℕ) (batch : List Entry) (others : List Message) → IsPlan plan → accepts plan batch ≡ true
    → join message_cmp (posts plan (map (entered epoch) batch)) others ≡ join message_cmp (batch_by_edge plan epoch batch) others

-- their pointstamps, edge by edge
abbrev pub batch_stamps : List Line → ℕ → List Entry → List Stamp
batch_stamps plan epoch batch = flat_map (λ e. replicate (length (records_for e.source batch)) (stamp_on plan (record { epoch = epoch; turns = [] }) e)) (edges plan)

-- they are those of its entries, one by one
abbrev pub BatchStampsByEdge : Type 0
BatchStampsByEdge = (plan : List Line) (epoch : ℕ) (batch : List Entry) → IsPlan plan → accepts plan batch ≡ true
    → AreAlike (stamps_of plan (posts plan (map (entered epoch) batch))) (batch_stamps plan epoch batch)

-- those of a task's records are all the same
abbrev pub StampsOfTask : Type 0
StampsOfTask = (plan : List Line) (v port : ℕ) (t : Timestamp) (recs : List Rec)
    → stamps_of plan (coming v port t recs) ≡ replicate (length recs) (record { time = t; place = places.Edge (edge_at plan v port) })

-- what a task's records leave at an output
abbrev pub comes_out_at_once : Kind → ℕ → Timestamp → List Rec → List OutputAt
comes_out_at_once output v t recs = map (λ r. record { epoch = t.epoch; output = record { vertex = v; rec = r } }) recs
comes_out_at_once _ v t recs = []

abbrev pub OutputsAtOnce : Type 0
OutputsAtOnce = (kind : Kind) (v port : ℕ) (t : Timestamp) (recs : List Rec) → flat_map (comes_out kind) (coming v port t recs) ≡ comes_out_at_once kind v t recs

-- the records of a task, which are some and all of a shard, ask for one notification
abbrev pub AsksOnce : Type 0
AsksOnce = (S : HallState) (s v port : ℕ) (t : Timestamp) (recs : List Rec)
    → 0 < length recs → AllByRecursion (λ r. shard_of_key S.workers r.key ≡ s) recs
    → with_asked (map (λ a. asked_of S.workers (waiting v t a)) (map (arrival_of port) recs)) S.asked ≡ set_insert notification_cmp (asked_at S s v t) S.asked
