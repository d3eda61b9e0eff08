-- What a hall's state is of the history of its play, from which confluence follows. A history is what was answered, sent and
-- notified; a state's lists are told by it; and what a vertex has sent answers what came to it. At a passed epoch such a
-- history solves the flat equations.
use Rattle.std.specs.Prelude.{◌≡◌, ℕ, ◌+◌, ◌-◌, ◌<◌, ◌≤◌, ◌==◌, nat_lt, nat_le, ◌≤◌, Bool, true, false, not, ◌&&◌, ◌||◌, List, [], ◌∷◌, ◌++◌, map, flat_map, filter, drop, length, get_or, slice_get, Some}
use Rattle.std.specs.List.{AllByRecursion}
use Rattle.td_stamp.specs.declared.values.Rec.{Rec}
use Rattle.td_stamp.specs.declared.values.Item.{Item}
use Rattle.td_stamp.specs.declared.values.Entry.{Entry}
use Rattle.td_stamp.specs.declared.values.Arrival.{Arrival}
use Rattle.td_stamp.specs.Orders.{rec_cmp}
use Rattle.td_stamp.specs.Time.{Timestamp}
use Rattle.td_stamp.specs.Bag.{join, bag_of, has, IsBag}
use Rattle.td_stamp.specs.Groups.{groups}
use Rattle.td_stamp.specs.States.{StateList, state_of, AreStates}
use Rattle.td_plan.specs.declared.vertex.Kind.{Kind}
use Rattle.td_plan.specs.declared.vertex.Kind.TheVariants.{Distinct, Fold}
use Rattle.td_plan.specs.Lines.{Line}
use Rattle.td_plan.specs.declared.vertex.Edge.{Edge}
use Rattle.td_plan.specs.Blocks.{bounds, reading_loops_at, edges, edge_at}
use Rattle.td_plan.specs.Faults.{IsPlan, is_fold}
use Rattle.td_calls.specs.Answers.{Answers}
use Rattle.td_calls.specs.Callbacks.{on_notification, is_notified}
use Rattle.td_batch.specs.Meaning.{EpochInput, answer}
use Rattle.td_batch.specs.Flow.{AreBelow}
use Rattle.td_reach.specs.declared.stamp.Stamp.{Stamp}
use Rattle.td_machine.specs.declared.records.Message.{Message}
use Rattle.td_machine.specs.declared.records.Stamped.{Stamped}
use Rattle.td_machine.specs.declared.records.Notification.{Notification}
use Rattle.td_machine.specs.declared.records.StateLeft.{StateLeft}
use Rattle.td_machine.specs.State.{HallState, Content, Task, KeyItems, message_cmp, stamped_cmp, notification_cmp, left_cmp, output_at_cmp, shard_of_key, is_there, arrival, asked_of, with_left}
use Rattle.td_machine.specs.State.Content.{messages, notification}
pub use Rattle.td_machine.specs.InOrder.{OneAShard}
use Rattle.td_machine.specs.Active.{kind_of, stamp_of_asked, stamp_at, active, IsFree}
use Rattle.td_machine.specs.Steps.{posts, stamped, called, coming, comes_out, notified_sends, leaves, is_asked, to_notify}

-- What a hall was opened with, and all that was released into it
pub record Origin : Type 0 where
  pub states : StateList
  pub first : ℕ
  pub batches : List (List Entry)

-- What happened: the records that were answered, what was sent in answer to each time, and the notifications that were
-- given, the newest first; and all that folds left, as a bag
pub record History : Type 0 where
  pub arrived : List Message
  pub sent : List Stamped
  pub notified : List Notification
  pub left : List StateLeft

abbrev pub no_history : History
no_history = record { arrived = []; sent = []; notified = []; left = [] }

-- one history has so many more records, and so many more notifications, than another
abbrev pub Gained : ℕ → ℕ → History → History → Type 0
Gained records notes H H' = (length H'.arrived ≡ records + length H.arrived) × (length H'.notified ≡ notes + length H.notified)

-- kinds that keep what they have seen
abbrev pub is_distinct : Kind → Bool
is_distinct Distinct = true
is_distinct _ = false

abbrev pub stamped_of : Message → Stamped
stamped_of c = record { vertex = c.vertex; time = c.time; rec = c.rec }

-- what is in a list of a vertex and a time
abbrev pub sent_at : List Stamped → ℕ → Timestamp → List Rec
sent_at sent v t = map (λ x. x.rec) (filter (λ x. is_there v t x.vertex x.time) sent)

abbrev pub came_at : List Message → ℕ → Timestamp → List Arrival
came_at cs v t = map arrival (filter (λ c. is_there v t c.vertex c.time) cs)

-- a record that came to a vertex has its answer: at once, or with the notification of its shard
abbrev pub has_answer : List Line → ℕ → List Notification → Message → Bool
has_answer plan workers notified c = not (is_notified (kind_of plan c.vertex)) || has notification_cmp (asked_of workers c) notified

-- the notifications for which records ask: those that come to groups and folds
abbrev pub asking : List Line → ℕ → List Message → List Notification
asking plan workers cs = map (asked_of workers) (filter (λ c. is_notified (kind_of plan c.vertex)) cs)

-- what a fold leaves for a group of items
abbrev pub left_by : EpochInput → ℕ → ℕ → ℕ → ℕ × List Item → StateLeft
left_by epoch code e v g = record { epoch = e; vertex = v; key = g.0; state = (on_notification epoch.answers (Fold code) g.0 (state_of epoch.states v g.0) g.1).0 }

abbrev pub is_left_at : ℕ → ℕ → StateLeft → Bool
is_left_at e v k = (k.epoch == e) && (k.vertex == v)

-- released, and in the turns that the loops have: a time at which a vertex reads
abbrev pub IsTime : Origin → ℕ → List Line → ℕ → Timestamp → Type 0
IsTime origin next plan v t = (origin.first ≤ t.epoch) × (t.epoch < next) × AreBelow t.turns (bounds (reading_loops_at plan v))

-- what an epoch is computed from
abbrev pub epoch_from : Answers → Origin → List StateLeft → ℕ → EpochInput
epoch_from answers origin left e = record {
  answers = answers;
  states = with_left origin.states (filter (λ k. nat_lt k.epoch e) left);
  batch = get_or origin.batches (e - origin.first) [];
}

-- the history with a record that is answered
abbrev pub also_delivered : Answers → HallState → History → Message → History
also_delivered answers S H c = record H { arrived = c ∷ H.arrived; sent = stamped c.vertex c.time (called answers S (kind_of S.plan c.vertex) c).sent ++ H.sent }

-- the history with a notification that is given
abbrev pub also_notified : Answers → HallState → History → Notification → List KeyItems → History
also_notified answers S H a items = record H {
  sent = stamped a.vertex a.time (notified_sends answers (kind_of S.plan a.vertex) items) ++ H.sent;
  notified = a ∷ H.notified;
  left = join left_cmp (leaves answers (kind_of S.plan a.vertex) a.time.epoch a.vertex items) H.left;
}

-- THE LISTS of a state are told by the history
pub record IsTold (origin : Origin) (S : HallState) (H : History) : Type 0 where
  -- each message that was sent is on its edge, or was answered
  pub balance : join message_cmp S.messages (bag_of message_cmp H.arrived) ≡ bag_of message_cmp (posts S.plan H.sent)
  -- what waits is what has no answer, and there is a notification asked for it
  pub buffered : S.buffered ≡ bag_of message_cmp (filter (λ c. not (has_answer S.plan S.workers H.notified c)) H.arrived)
  pub asked : (a : Notification) → has notification_cmp a S.asked ≡ has notification_cmp a (map (asked_of S.workers) (filter (λ c. not (has_answer S.plan S.workers H.notified c)) H.arrived))
  -- what a distinct has seen, of epochs after the base, is what came to it
  pub seen : (x : Stamped) → S.base < x.time.epoch → has stamped_cmp x S.seen ≡ has stamped_cmp x (map stamped_of (filter (λ c. is_distinct (kind_of S.plan c.vertex)) H.arrived))
  pub outputs : S.outputs ≡ bag_of output_at_cmp (filter (λ o. nat_lt S.collected o.epoch) (flat_map (λ c. comes_out (kind_of S.plan c.vertex) c) H.arrived))
  pub left_bag : IsBag left_cmp H.left
  pub left : S.left ≡ filter (λ k. nat_lt S.base k.epoch) H.left
  pub base_states : S.base_states ≡ with_left origin.states (filter (λ k. nat_le k.epoch S.base) H.left)

-- WHAT WAS SENT answers what came, vertex by vertex and time by time
pub record AreAnswered (answers : Answers) (origin : Origin) (S : HallState) (H : History) : Type 0 where
  pub sent_times : AllByRecursion (λ x. IsTime origin S.next S.plan x.vertex x.time) H.sent
  pub message_times : AllByRecursion (λ c. IsTime origin S.next S.plan c.vertex c.time) S.messages
  pub arrived_times : AllByRecursion (λ c. IsTime origin S.next S.plan c.vertex c.time) H.arrived
  pub sent : (v : ℕ) (t : Timestamp) → IsTime origin S.next S.plan v t
      → bag_of rec_cmp (sent_at H.sent v t) ≡ answer (epoch_from answers origin H.left t.epoch) v (kind_of S.plan v) (came_at (filter (has_answer S.plan S.workers H.notified) H.arrived) v t)
  pub left : (v code e : ℕ) → kind_of S.plan v ≡ Fold code → origin.first ≤ e → e < S.next
      → filter (is_left_at e v) H.left ≡ map (left_by (epoch_from answers origin H.left e) code e v) (groups (came_at (filter (has_answer S.plan S.workers H.notified) H.arrived) v (record { epoch = e; turns = [] })))
  pub folds_left : AllByRecursion (λ k. (is_fold (kind_of S.plan k.vertex) ≡ true) × (origin.first ≤ k.epoch) × (k.epoch < S.next)) H.left

abbrev pub recs_in : Content → List Rec
recs_in (messages port recs) = recs
recs_in (notification items) = []

-- what a task that is out took up is still there, and nothing holds its notification back
abbrev pub StandsOut : HallState → Task → Content → Type 0
StandsOut S task (messages port recs) = (rest : List Message) × (S.messages ≡ join message_cmp (coming task.vertex port task.time recs) rest)
StandsOut S task (notification items) = (is_asked S task.shard task.vertex task.time ≡ true) × IsFree S (stamp_at task.vertex task.time) × (items ≡ to_notify S task.shard task.vertex task.time)

-- a message is on the edge of its number
abbrev pub IsOnEdge : List Line → Message → Type 0
IsOnEdge plan c = (e : Edge) × (slice_get (edges plan) (edge_at plan c.vertex c.port) ≡ Some e) × (e.reader ≡ c.vertex)

-- none stands twice
abbrev pub AreOnce : List Notification → Type 0
AreOnce [] = Unit {0}
AreOnce (a ∷ more) = (has notification_cmp a more ≡ false) × AreOnce more

-- THE INVARIANT, but for the tasks that are out
pub record Running (answers : Answers) (origin : Origin) (S : HallState) (H : History) : Type 0 where
  pub told : IsTold origin S H
  pub answered : AreAnswered answers origin S H
  pub on_edges : AllByRecursion (IsOnEdge S.plan) S.messages
  pub messages_bag : IsBag message_cmp S.messages
  -- collected epochs and those of the base have passed
  pub later : AllByRecursion (λ (p : Stamp). (S.base < p.time.epoch) × (S.collected < p.time.epoch)) (active S)
  -- nothing comes any more where a notification was given
  pub settled : AllByRecursion (λ a. IsFree S (stamp_of_asked a)) H.notified
  pub notified_times : AllByRecursion (λ a. IsTime origin S.next S.plan a.vertex a.time) H.notified
  -- no notification is given twice
  pub notified_once : AreOnce H.notified
  -- and each was asked for by a record that came
  pub notified_asked : AllByRecursion (λ a. has notification_cmp a (asking S.plan S.workers H.arrived) ≡ true) H.notified

-- where a hall stands in the history of its epochs
pub record Stands (origin : Origin) (S : HallState) : Type 0 where
  pub plan : IsPlan S.plan
  pub workers : 0 < S.workers
  pub next : S.next ≡ origin.first + length origin.batches
  pub first : 1 ≤ origin.first
  pub states : AreStates origin.states
  pub base : (origin.first ≤ S.base + 1) × (S.base < S.next)
  pub collected : (origin.first ≤ S.collected + 1) × (S.collected < S.next)
  pub batches : S.batches ≡ drop (S.base + 1 - origin.first) origin.batches

pub record TasksOut (S : HallState) : Type 0 where
  pub stand : AllByRecursion (λ task. (task.kind ≡ kind_of S.plan task.vertex) × AllByRecursion (λ r. shard_of_key S.workers r.key ≡ task.shard) (recs_in task.content) × StandsOut S task task.content) S.out
  pub once : OneAShard S.out

-- THE INVARIANT
pub record Invariant (answers : Answers) (origin : Origin) (S : HallState) (H : History) : Type 0 where
  pub stands : Stands origin S
  pub running : Running answers origin S H
  pub tasks : TasksOut S
