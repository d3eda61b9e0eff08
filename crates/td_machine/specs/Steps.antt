-- What each call of a hall does: its answer, and the state after it (Naiad, sections 2.2 and 2.3). Each is one atomic step.
use Rattle.std.specs.Prelude.{◌≡◌, ℕ, suc, ◌+◌, ◌-◌, ◌^◌, ◌==◌, ◌<◌, ◌≤◌, nat_lt, Bool, true, false, not, List, [], ◌∷◌, ◌++◌, map, filter, flat_map, drop, length, Option, Some, None, unwrap_or, Contains, if◌then◌else◌}
use Rattle.std.specs.List.{AllByRecursion, list_all}
use Rattle.std.specs.Ordering.{is_eq}
use Rattle.td_stamp.specs.declared.values.Rec.{Rec}
use Rattle.td_stamp.specs.declared.values.Entry.{Entry}
use Rattle.td_stamp.specs.declared.values.Output.{Output}
use Rattle.td_stamp.specs.declared.values.Item.{Item}
use Rattle.td_stamp.specs.declared.values.Arrival.{Arrival}
use Rattle.td_stamp.specs.declared.epoch_out.EpochOut.{EpochOut}
use Rattle.td_stamp.specs.Time.{Timestamp, enter, leave, again}
use Rattle.td_stamp.specs.Bag.{bag_insert, bag_remove, set_insert, join, has}
use Rattle.td_stamp.specs.Groups.{groups, rec_of}
use Rattle.td_stamp.specs.States.{StateList, state_of}
use Rattle.td_plan.specs.declared.vertex.Kind.{Kind}
use Rattle.td_plan.specs.declared.vertex.Kind.TheVariants.{Fold, Enter, Feedback, Leave, Output as output}
use Rattle.td_plan.specs.declared.vertex.Edge.{Edge}
use Rattle.td_plan.specs.Lines.{Line}
use Rattle.td_plan.specs.Blocks.{edges}
use Rattle.td_plan.specs.Inputs.{is_input_of}
use Rattle.td_calls.specs.Answers.{Answers}
use Rattle.td_calls.specs.Callbacks.{Added, on_arrival, on_notification}
use Rattle.td_machine.specs.declared.records.Message.{Message}
use Rattle.td_machine.specs.declared.records.Stamped.{Stamped}
use Rattle.td_machine.specs.declared.records.Notification.{Notification}
use Rattle.td_machine.specs.declared.records.StateLeft.{StateLeft}
use Rattle.td_machine.specs.declared.records.OutputAt.{OutputAt}
use Rattle.td_machine.specs.State.{HallState, KeyItems, Content, Task, message_cmp, stamped_cmp, notification_cmp, left_cmp, output_at_cmp, task_cmp, shard_of_key, is_out, arrival, asked_of, local_at, states_at}
use Rattle.td_machine.specs.State.Content.{messages, notification}
use Rattle.td_machine.specs.Active.{kind_of, bound_of, stamp_at, has_passed, released_after, unpassed, Frontier}

-- Why a call is refused; the state is then as it was
pub data Refusal : Type 0 where
  -- the task that is given is not the one that is out at its shard
  stranger : Refusal
  -- a task is out at the shard
  busy : Refusal
  -- this is the least released epoch that has not passed
  not_passed : ℕ → Refusal
  inputs_closed : Refusal
  -- all numbers of epochs, or of tasks, are used
  out_of_epochs : Refusal
  spent : Refusal

-- What is called
pub data Event : Type 0 where
  release : List Entry → Event
  taking : ℕ → Event
  give : Task → Event
  collect : Event
  cut : Event
  cut_at : ℕ → Event
  close : Event

-- What a call answers
pub data Answer : Type 0 where
  refused : Refusal → Answer
  has_released : ℕ → Answer
  has_taken : Option Task → Answer
  has_given : Answer
  has_collected : List EpochOut → Answer
  has_cut : ℕ → StateList → Answer
  has_closed : Answer

-- Epochs and tasks are numbered below this
abbrev pub ends : ℕ
ends = 2 ^ 63

-- how many messages a task has at most
abbrev pub task_size : ℕ
task_size = 64

-- THE TIMES at which a vertex sends what it was given at a time (Naiad, section 2.1): one, or none at a feedback in the last turn
-- of its loop
abbrev pub again_below : ℕ → Timestamp → List ℕ → List Timestamp
again_below bound t [] = []
again_below bound t (k ∷ outer) = if nat_lt (suc k) bound then again t ∷ [] else []

-- by its kind
abbrev pub sending_times : Kind → ℕ → Timestamp → List Timestamp
sending_times Enter bound t = enter t ∷ []
sending_times Leave bound t = leave t ∷ []
sending_times Feedback bound t = again_below bound t t.turns
sending_times _ bound t = t ∷ []

-- the edges out of a vertex
abbrev pub edges_from : List Line → ℕ → List Edge
edges_from plan u = filter (λ e. e.source == u) (edges plan)

-- the messages of a record that a vertex sends in answer to a time: one on each edge out of it
abbrev pub on_edge : Timestamp → Rec → Edge → Message
on_edge t r e = record { vertex = e.reader; port = e.port; time = t; rec = r }

-- those of one record
abbrev pub posted : List Line → Stamped → List Message
posted plan x = flat_map (λ later. map (on_edge later x.rec) (edges_from plan x.vertex)) (sending_times (kind_of plan x.vertex) (bound_of plan x.vertex) x.time)

-- those of all
abbrev pub posts : List Line → List Stamped → List Message
posts plan xs = flat_map (posted plan) xs

-- records that a vertex sends in answer to a time
abbrev pub stamped : ℕ → Timestamp → List Rec → List Stamped
stamped v t recs = map (λ r. record { vertex = v; time = t; rec = r }) recs

-- an entry of a batch, at an epoch
abbrev pub entered : ℕ → Entry → Stamped
entered e entry = record { vertex = entry.input; time = record { epoch = e; turns = [] }; rec = entry.rec }

-- records that come to a port at a time
abbrev pub coming : ℕ → ℕ → Timestamp → List Rec → List Message
coming v port t recs = map (λ r. record { vertex = v; port = port; time = t; rec = r }) recs

-- A hall that is opened: nothing is released yet
abbrev pub opened : List Line → StateList → ℕ → ℕ → HallState
opened plan states first workers = record {
  plan = plan;
  workers = workers;
  base = first - 1;
  base_states = states;
  batches = [];
  next = first;
  closed = false;
  messages = [];
  buffered = [];
  seen = [];
  left = [];
  asked = [];
  out = [];
  outputs = [];
  collected = first - 1;
  taken = 0;
  given = 0;
}

module _ (S : HallState) where
  -- RELEASE: each entry's record is on every edge out of its input
  abbrev pub with_batch : List Entry → HallState
  with_batch batch = record S {
    batches = S.batches ++ batch ∷ [];
    next = S.next + 1;
    messages = join message_cmp (posts S.plan (map (entered S.next) batch)) S.messages;
  }

  -- a hall that is closed is released nothing, nor one that is out of numbers
  abbrev pub release_by : Bool → Bool → List Entry → Answer × HallState
  release_by true at_end batch = (refused inputs_closed, S)
  release_by false true batch = (refused out_of_epochs, S)
  release_by false false batch = (has_released S.next, with_batch batch)

  -- the first that holds is answered
  abbrev pub release_step : List Entry → Answer × HallState
  release_step batch = release_by S.closed (S.next == ends) batch

  -- COLLECT: the outputs of the epochs that have passed since the last collect
  abbrev pub outputs_at : ℕ → List Output
  outputs_at e = map (λ o. o.output) (filter (λ o. o.epoch == e) S.outputs)

  -- the epochs whose outputs are answered
  abbrev pub to_collect : List ℕ
  to_collect = filter (has_passed S) (released_after S S.collected)

  -- the outputs of epochs up to this one are let go
  abbrev pub collected_to : ℕ → HallState
  collected_to e = record S { collected = e; outputs = filter (λ o. nat_lt e o.epoch) S.outputs }

  -- the outputs of each of them, in order
  abbrev pub collect_step : Answer × HallState
  collect_step = (has_collected (map (λ e. record { epoch = e; recs = outputs_at e }) to_collect), collected_to (S.collected + length to_collect))

  -- CUT: the states after an epoch become the base, and what belongs to epochs up to it is let go: batches, what folds left and
  -- what distincts have seen (Naiad, section 3.4, Checkpoint). No record arrives in an epoch up to the base any more, so nothing
  -- asks for them again
  abbrev pub cut_to : ℕ → HallState
  cut_to e = record S {
    base = e;
    base_states = states_at S e;
    batches = drop (e - S.base) S.batches;
    left = filter (λ k. nat_lt e k.epoch) S.left;
    seen = filter (λ x. nat_lt e x.time.epoch) S.seen;
  }

  -- at the last released epoch, where all have passed
  abbrev pub cut_by : Option ℕ → ℕ → Answer × HallState
  cut_by (Some e) last = (refused (not_passed e), S)
  cut_by None last = (has_cut last (states_at S last), cut_to last)

  -- at any released epoch that has passed
  abbrev pub cut_at_by : Bool → ℕ → Answer × HallState
  cut_at_by true e = (has_cut e (states_at S e), cut_to e)
  cut_at_by false e = (refused (not_passed (unwrap_or (unpassed S) e)), S)

  -- CLOSE: the inputs are active no more
  abbrev pub close_step : Answer × HallState
  close_step = (has_closed, record S { closed = true })

  -- TAKE: a message with others of its edge and time and shard, or a notification that is in the frontier
  abbrev pub asked_at : ℕ → ℕ → Timestamp → Notification
  asked_at s v t = record { shard = s; vertex = v; time = t }

  -- whether it was asked for
  abbrev pub is_asked : ℕ → ℕ → Timestamp → Bool
  is_asked s v t = has notification_cmp (asked_at s v t) S.asked

  -- whether a message waits for it
  abbrev pub is_for : Notification → Message → Bool
  is_for a c = is_eq (notification_cmp a (asked_of S.workers c))

  -- the items that wait for a notification, by key, with the states kept before its epoch. A group has the states too, and
  -- ignores them: so a shard looks up states without asking for the kind
  abbrev pub with_state_of : ℕ → Timestamp → ℕ × List Item → KeyItems
  with_state_of v t g = record { key = g.0; items = g.1; state = state_of (states_at S (t.epoch - 1)) v g.0 }

  -- what a notification is taken with
  abbrev pub to_notify : ℕ → ℕ → Timestamp → List KeyItems
  to_notify s v t = map (with_state_of v t) (groups (map arrival (filter (is_for (asked_at s v t)) S.buffered)))

  -- records that are messages now, of the shard, of one edge and time, and 64 at most; or a notification that was asked for and
  -- is in the frontier, with what waits for it. Messages have no order here: a task may have any of them, in any order, and
  -- confluence holds of every choice
  abbrev pub IsContent : ℕ → ℕ → Timestamp → Content → Type 0
  IsContent s v t (messages port recs) = (0 < length recs) × (length recs ≤ task_size) × AllByRecursion (λ r. shard_of_key S.workers r.key ≡ s) recs
      × ((rest : List Message) × (S.messages ≡ join message_cmp (coming v port t recs) rest))
  IsContent s v t (notification items) = (is_asked s v t ≡ true) × Frontier S (stamp_at v t) × (items ≡ to_notify s v t)

  -- a task that may be taken at a shard
  pub record MayTake (s : ℕ) (task : Task) : Type 0 where
    pub shard : task.shard ≡ s
    pub number : task.number ≡ S.taken + 1
    pub kind : task.kind ≡ kind_of S.plan task.vertex
    pub content : IsContent s task.vertex task.time task.content

  -- the task is out
  abbrev pub with_task : Task → HallState
  with_task task = record S { out = bag_insert task_cmp task S.out; taken = S.taken + 1 }

  -- the answers of a take: busy; else none, where there is no such task; else spent, where all numbers are used; else any such task
  pub data Takes (s : ℕ) : Answer → HallState → Type 0 where
    is_busy : is_out S s ≡ true → Takes s (refused busy) S
    has_none : is_out S s ≡ false → ((task : Task) → MayTake s task → ⊥) → Takes s (has_taken None) S
    is_spent : is_out S s ≡ false → (task : Task) → MayTake s task → S.taken ≡ ends → Takes s (refused spent) S
    takes : is_out S s ≡ false → (task : Task) → MayTake s task → S.taken < ends → Takes s (has_taken (Some task)) (with_task task)

-- GIVE: what a record that comes to an output leaves there
abbrev pub comes_out : Kind → Message → List OutputAt
comes_out output c = record { epoch = c.time.epoch; output = record { vertex = c.vertex; rec = c.rec } } ∷ []
comes_out _ c = []

-- a set with some more elements
abbrev pub with_asked : List Notification → List Notification → List Notification
with_asked [] ys = ys
with_asked (x ∷ xs) ys = set_insert notification_cmp x (with_asked xs ys)

-- an arrival that a vertex keeps, as an item that waits
abbrev pub waiting : ℕ → Timestamp → Arrival → Message
waiting v t a = record { vertex = v; port = a.item.port; time = t; rec = rec_of a }

-- what a fold leaves for the keys of a notification
abbrev pub leaves : Answers → Kind → ℕ → ℕ → List KeyItems → List StateLeft
leaves answers (Fold code) e v items = map (λ g. record { epoch = e; vertex = v; key = g.key; state = (on_notification answers (Fold code) g.key g.state g.items).0 }) items
leaves answers _ e v items = []

-- what is sent in answer to a notification
abbrev pub notified_sends : Answers → Kind → List KeyItems → List Rec
notified_sends answers kind items = flat_map (λ g. (on_notification answers kind g.key g.state g.items).1) items

module _ (answers : Answers) (S : HallState) where
  -- what the callback of a record does
  abbrev pub called : Kind → Message → Added
  called kind c = on_arrival answers kind (local_at S c.vertex c.time) (arrival c)

  -- the state after one message was answered
  abbrev pub delivered_by : Added → Kind → Message → HallState
  delivered_by added kind c = record S {
    messages = join message_cmp (posts S.plan (stamped c.vertex c.time added.sent)) (bag_remove message_cmp c S.messages);
    buffered = join message_cmp (map (waiting c.vertex c.time) added.buffered) S.buffered;
    seen = join stamped_cmp (stamped c.vertex c.time added.seen) S.seen;
    asked = with_asked (map (λ a. asked_of S.workers (waiting c.vertex c.time a)) added.buffered) S.asked;
    outputs = join output_at_cmp (comes_out kind c) S.outputs;
  }

  -- by its callback
  abbrev pub delivered : Kind → Message → HallState
  delivered kind c = delivered_by (called kind c) kind c

  -- the state after a notification was answered
  abbrev pub notified : Notification → Kind → List KeyItems → HallState
  notified a kind items = record S {
    messages = join message_cmp (posts S.plan (stamped a.vertex a.time (notified_sends answers kind items))) S.messages;
    buffered = filter (λ c. not (is_for S a c)) S.buffered;
    asked = filter (λ b. not (is_eq (notification_cmp a b))) S.asked;
    left = join left_cmp (leaves answers kind a.time.epoch a.vertex items) S.left;
  }

-- a task's effect: its records one after another, or its notification
abbrev pub all_delivered : Answers → Kind → HallState → List Message → HallState
all_delivered answers kind S [] = S
all_delivered answers kind S (c ∷ cs) = all_delivered answers kind (delivered answers S kind c) cs

-- the effect of what a task has to do
abbrev pub effect : Answers → HallState → Task → Content → HallState
effect answers S task (messages port recs) = all_delivered answers task.kind S (coming task.vertex port task.time recs)
effect answers S task (notification items) = notified answers S (asked_at S task.shard task.vertex task.time) task.kind items

-- the task is out no more
abbrev pub is_given : HallState → Task → HallState
is_given S task = record S { out = filter (λ t. not (t.shard == task.shard)) S.out; given = S.given + 1 }

-- the answers of a give: a task is taken back that is out, with all that it has; any other is a stranger
pub data Gives (answers : Answers) (S : HallState) (task : Task) : Answer → HallState → Type 0 where
  gives : Contains S.out task → Gives answers S task has_given (is_given (effect answers S task task.content) task)
  is_stranger : (Contains S.out task → ⊥) → Gives answers S task (refused stranger) S

-- every entry names an input
abbrev pub accepts : List Line → List Entry → Bool
accepts plan batch = list_all (λ e. is_input_of plan e.input) batch

-- A STEP of a hall; a release and a cut at an epoch have a condition on which they may be called
module _ (answers : Answers) where
  -- by what is called
  abbrev pub Step : HallState → Event → Answer → HallState → Type 0
  Step S (release batch) answer after = (accepts S.plan batch ≡ true) × (release_step S batch ≡ (answer, after))
  Step S (taking s) answer after = Takes S s answer after
  Step S (give task) answer after = Gives answers S task answer after
  Step S collect answer after = collect_step S ≡ (answer, after)
  Step S cut answer after = cut_by S (unpassed S) (S.next - 1) ≡ (answer, after)
  Step S (cut_at e) answer after = (S.base ≤ e) × (e < S.next) × (cut_at_by S (has_passed S e) e ≡ (answer, after))
  Step S close answer after = close_step S ≡ (answer, after)

  -- PLAYS: one step after another, in whatever order takes and gives fall
  abbrev pub Plays : HallState → List Event → List Answer → HallState → Type 0
  Plays S [] [] after = after ≡ S
  Plays S [] (answer ∷ more) after = ⊥
  Plays S (event ∷ events) [] after = ⊥
  Plays S (event ∷ events) (answer ∷ more) after = (next : HallState) × Step S event answer next × Plays next events more after
