-- What a task does all at once, in place of one record after another.
use Rattle.std.specs.Prelude.{◌≡◌, ◌==◌, ℕ, true, false, List, [], ◌∷◌, map, filter, flat_map}
use Rattle.std.specs.List.{AllByRecursion}
use Rattle.td_stamp.specs.declared.values.Rec.{Rec}
use Rattle.td_stamp.specs.Bag.{bag_insert, join, has}
use Rattle.td_stamp.specs.Groups.{arrival_of}
use Rattle.td_stamp.specs.Time.{Timestamp}
use Rattle.td_plan.specs.declared.vertex.Kind.{Kind}
use Rattle.td_plan.specs.declared.vertex.Kind.TheVariants.{Input, Map, Distinct, Group, Fold}
use Rattle.td_calls.specs.Answers.{Answers}
use Rattle.td_calls.specs.Callbacks.{Added, only_sent}
use Rattle.td_machine.specs.declared.records.Message.{Message}
use Rattle.td_machine.specs.declared.records.Stamped.{Stamped}
use Rattle.td_machine.specs.State.{HallState, message_cmp, stamped_cmp, output_at_cmp, shard_of_key, asked_of}
use Rattle.td_machine.specs.Steps.{posts, stamped, coming, comes_out, with_asked, waiting, all_delivered}

-- a record at a vertex and a time
abbrev pub stamped_at : ℕ → Timestamp → Rec → Stamped
stamped_at v t r = record { vertex = v; time = t; rec = r }

-- the records that are new to a distinct that has seen these: each once, where it comes first
abbrev pub fresh : List Stamped → ℕ → Timestamp → List Rec → List Rec
fresh seen v t [] = []
fresh seen v t (r ∷ rs) = elim (has stamped_cmp (stamped_at v t r) seen) [ true ↦ fresh seen v t rs | false ↦ r ∷ fresh (bag_insert stamped_cmp (stamped_at v t r) seen) v t rs ]

-- WHAT A TASK'S RECORDS ADD AND SEND altogether, by the kind of their vertex, without the states between: `seen` is what distincts
-- have seen before
abbrev pub added_at_once : Answers → List Stamped → Kind → ℕ → ℕ → Timestamp → List Rec → Added
added_at_once answers seen Input v port t recs = only_sent []
added_at_once answers seen (Map code) v port t recs = only_sent (flat_map (answers.emit code port) recs)
added_at_once answers seen Distinct v port t recs = record { seen = fresh seen v t recs; buffered = []; sent = fresh seen v t recs }
added_at_once answers seen (Group code) v port t recs = record { seen = []; buffered = map (arrival_of port) recs; sent = [] }
added_at_once answers seen (Fold code) v port t recs = record { seen = []; buffered = map (arrival_of port) recs; sent = [] }
added_at_once answers seen _ v port t recs = only_sent recs

-- the state with all that they add, in which these other messages are left
abbrev pub with_all : HallState → Kind → ℕ → ℕ → Timestamp → List Rec → List Message → Added → HallState
with_all S kind v port t recs others added = record S {
  messages = join message_cmp (posts S.plan (stamped v t added.sent)) others;
  buffered = join message_cmp (map (waiting v t) added.buffered) S.buffered;
  seen = join stamped_cmp (stamped v t added.seen) S.seen;
  asked = with_asked (map (λ a. asked_of S.workers (waiting v t a)) added.buffered) S.asked;
  outputs = join output_at_cmp (flat_map (comes_out kind) (coming v port t recs)) S.outputs;
}

-- A TASK'S RECORDS, answered all at once
abbrev pub at_once : Answers → HallState → Kind → ℕ → ℕ → Timestamp → List Rec → List Message → HallState
at_once answers S kind v port t recs others = with_all S kind v port t recs others (added_at_once answers S.seen kind v port t recs)

-- where these are messages beside others, they may be answered one after another or all at once
abbrev pub DeliveredAtOnce : Answers → Type 0
DeliveredAtOnce answers = (S : HallState) (kind : Kind) (v port : ℕ) (t : Timestamp) (recs : List Rec) (others : List Message)
    → S.messages ≡ join message_cmp (coming v port t recs) others
    → all_delivered answers kind S (coming v port t recs) ≡ at_once answers S kind v port t recs others

-- what is new depends only on which of these records were seen at the vertex and time
abbrev pub FreshByMembers : Type 0
FreshByMembers = (seen other : List Stamped) (v : ℕ) (t : Timestamp) (recs : List Rec)
    → AllByRecursion (λ r. has stamped_cmp (stamped_at v t r) seen ≡ has stamped_cmp (stamped_at v t r) other) recs
    → fresh seen v t recs ≡ fresh other v t recs

-- so for the records of a shard what was seen in the shard will do
abbrev pub FreshOfShard : Type 0
FreshOfShard = (workers s : ℕ) (seen : List Stamped) (v : ℕ) (t : Timestamp) (recs : List Rec)
    → AllByRecursion (λ r. shard_of_key workers r.key ≡ s) recs
    → fresh (filter (λ x. shard_of_key workers x.rec.key == s) seen) v t recs ≡ fresh seen v t recs
