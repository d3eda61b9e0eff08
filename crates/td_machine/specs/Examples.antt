-- Worked plays.
use Rattle.std.specs.Prelude.{◌≡◌, ℕ, ◌≤◌, List, [], ◌∷◌, ℤ, pos, refl, Option, Some, None, slice_get}
use Rattle.std.proofs.Common.{◌∙◌, subst}
use Rattle.td_stamp.specs.declared.values.Entry.{Entry}
use Rattle.td_stamp.specs.declared.values.State.{State}
use Rattle.td_stamp.specs.Time.{Timestamp}
use Rattle.td_plan.specs.declared.vertex.Kind.{Kind}
use Rattle.td_plan.specs.declared.vertex.Kind.TheVariants.{Enter, Feedback, Leave}
use Rattle.td_plan.specs.declared.vertex.Edge.{Edge}
use Rattle.td_plan.specs.Lines.{Line}
use Rattle.td_plan.specs.Named.{count_plan}
use Rattle.td_plan.specs.Blocks.{edges, kind_at}
use Rattle.td_reach.specs.declared.stamp.Stamp.{Stamp}
use Rattle.td_plan.specs.Times.{sent_at, sent_by}
use Rattle.td_reach.specs.Paths.{Could, adjust, over}
use Rattle.td_calls.specs.Stock.{stock}
use Rattle.td_batch.specs.Examples.{entry}
use Rattle.td_machine.specs.declared.records.Message.{Message}
use Rattle.td_machine.specs.declared.records.Stamped.{Stamped}
use Rattle.td_machine.specs.State.{HallState, KeyItems, Task}
use Rattle.td_machine.specs.State.Content.{messages, notification}
use Rattle.td_machine.specs.Steps.{opened, with_task, effect, is_given, sending_times, cut_to}

abbrev pub at_epoch : ℕ → Timestamp
at_epoch e = record { epoch = e; turns = [] }

abbrev pub one_batch : ℤ → List Entry
one_batch val = entry 0 7 val ∷ []

-- a message to port 0 of a vertex
abbrev pub message_at : ℕ → Timestamp → ℤ → Message
message_at v t val = record { vertex = v; port = 0; time = t; rec = record { key = 7; val = val } }

-- a task of one message, of the only shard
abbrev pub message_task : ℕ → ℕ → Kind → Timestamp → ℤ → Task
message_task number v kind t val = record { shard = 0; number = number; vertex = v; kind = kind; time = t; content = messages 0 (record { key = 7; val = val } ∷ []) }

-- what waits for a notification, where one item does, and the task of its notification
abbrev pub one_item : ℕ → ℤ → Option State → List KeyItems
one_item key val state = record { key = key; items = record { port = 0; val = val } ∷ []; state = state } ∷ []

abbrev pub note_task : ℕ → ℕ → ℕ → Kind → Timestamp → List KeyItems → Task
note_task shard number v kind t items = record { shard = shard; number = number; vertex = v; kind = kind; time = t; content = notification items }

abbrev pub taken_by : HallState → Task → HallState
taken_by S task = with_task S task

abbrev pub given_by : HallState → Task → HallState
given_by S task = is_given (effect stock S task task.content) task

-- a path leaves the epoch as it is, so nothing of a later epoch could result in something of an earlier one
sent_at-epoch : (k : Kind) (t : Timestamp) → (sent_at k t).epoch ≡ t.epoch
sent_at-epoch Enter t = refl
sent_at-epoch Leave t = refl
sent_at-epoch Feedback t = refl
sent_at-epoch _ t = refl

pub sent_by-epoch : (k : Option Kind) (t : Timestamp) → (sent_by k t).epoch ≡ t.epoch
sent_by-epoch None t = refl
sent_by-epoch (Some k) t = sent_at-epoch k t

over-epoch : (plan : List Line) (edge : Option Edge) (t : Timestamp) → (over plan edge t).epoch ≡ t.epoch
over-epoch plan None t = refl
over-epoch plan (Some edge) t = sent_by-epoch (kind_at plan edge.source) t

adjust-epoch : (plan : List Line) (path : List ℕ) (t : Timestamp) → (adjust plan path t).epoch ≡ t.epoch
adjust-epoch plan [] t = refl
adjust-epoch plan (e ∷ path) t = adjust-epoch plan path (over plan (slice_get (edges plan) e) t) ∙ over-epoch plan (slice_get (edges plan) e) t

pub could-epoch : (plan : List Line) (p q : Stamp) → Could plan p q → p.time.epoch ≤ q.time.epoch
could-epoch plan p q c = subst (λ e. e ≤ q.time.epoch) (adjust-epoch plan c.path p.time) c.in_time.epoch

-- a loop of bound 3 has the turns 0, 1 and 2: what comes to its feedback in the last of them is sent no more
pub goes_round : sending_times Feedback 3 (record { epoch = 1; turns = 1 ∷ [] }) ≡ record { epoch = 1; turns = 2 ∷ [] } ∷ []
goes_round = refl

pub goes_no_further : sending_times Feedback 3 (record { epoch = 1; turns = 2 ∷ [] }) ≡ []
goes_no_further = refl

-- a cut at epoch 1 lets go of what was seen in epoch 1, and keeps what was seen in epoch 2
abbrev pub seen_at : ℕ → Stamped
seen_at e = record { vertex = 1; time = at_epoch e; rec = record { key = 7; val = pos 1 } }

pub lets_go : (cut_to (record (opened count_plan [] 1 1) { next = 3; seen = seen_at 1 ∷ seen_at 2 ∷ [] }) 1).seen ≡ seen_at 2 ∷ []
lets_go = refl
