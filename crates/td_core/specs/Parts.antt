-- How a hall keeps its state, and what is true of it. Messages stand in the mailboxes of shards, or with the task that took them up;
-- what waits for a notification, and what is asked for, stands with its shard until the notification is given.
use Rattle.std.specs.Prelude.{◌≡◌, ℕ, ◌≤◌, List, [], ◌++◌, map, flat_map, length}
use Rattle.std.specs.List.{AllByRecursion, enumerate_from}
use Rattle.std.specs.List.Sorted.{IsStrictlySortedBy}
use Rattle.std.specs.Map.{keys_of}
use Rattle.td_stamp.specs.declared.values.Arrival.{Arrival}
use Rattle.td_stamp.specs.Time.{Timestamp}
use Rattle.td_stamp.specs.Bag.{bag_of, set_of}
use Rattle.td_calls.specs.Answers.{Answers}
use Rattle.td_progress.specs.Bag.{IsSameBag}
use Rattle.td_machine.specs.declared.records.Message.{Message}
use Rattle.td_machine.specs.declared.records.Notification.{Notification}
use Rattle.td_machine.specs.State.{HallState, Task, Content, message_cmp, notification_cmp, shard_of_key}
use Rattle.td_machine.specs.State.Content.{messages, notification}
use Rattle.td_machine.specs.Active.{active, inputs_of}
use Rattle.td_machine.specs.Steps.{coming, waiting, ends}
use Rattle.td_machine.specs.Reached.{IsReached}
use Rattle.td_shard.specs.declared.waiting.Noted.{Noted}
use Rattle.td_shard.specs.Asked.{noted_cmp}
use Rattle.td_shard.specs.declared.shard.Shard.{Shard}
use Rattle.td_core.specs.declared.hall.Parts.{Parts}
use Rattle.td_core.specs.Routes.{IsRoutes}

-- the messages that a task took up
abbrev pub taken_up : ℕ → Timestamp → Content → List Message
taken_up v t (messages port recs) = coming v port t recs
taken_up v t (notification items) = []

-- those of all tasks that are out
abbrev pub with_tasks : List Task → List Message
with_tasks out = flat_map (λ task. taken_up task.vertex task.time task.content) out

-- the messages in the mailboxes
abbrev pub in_mailboxes : List Shard → List Message
in_mailboxes shards = flat_map (λ s. s.mailbox.messages) shards

-- the items that wait at a vertex and time
abbrev pub waiting_at : Noted × List Arrival → List Message
waiting_at w = map (waiting w.0.vertex w.0.time) w.1

-- those of a shard
abbrev pub waiting_in : Shard → List Message
waiting_in s = flat_map waiting_at s.waiting

-- the notifications for which a shard asked
abbrev pub asked_of_shard : ℕ → Noted × List Arrival → Notification
asked_of_shard s w = record { shard = s; vertex = w.0.vertex; time = w.0.time }

abbrev pub asked_in : ℕ × Shard → List Notification
asked_in p = map (asked_of_shard p.0) p.1.waiting

-- the state that a hall keeps so
abbrev pub state_of : Parts → HallState
state_of h = record {
  plan = h.table.plan;
  workers = length h.shards.items;
  base = h.base;
  base_states = h.states;
  batches = h.batches.items;
  next = h.next;
  closed = h.closed;
  messages = bag_of message_cmp (in_mailboxes h.shards.items ++ with_tasks h.out.items);
  buffered = bag_of message_cmp (flat_map waiting_in h.shards.items);
  seen = h.seen;
  left = h.versions;
  asked = set_of notification_cmp (flat_map asked_in (enumerate_from 0 h.shards.items));
  out = h.out.items;
  outputs = h.outputs;
  collected = h.collected;
  taken = h.taken;
  given = h.given;
}

-- what stands with a shard belongs to it, and stands once
pub record IsShard (workers : ℕ) (p : ℕ × Shard) : Type 0 where
  pub messages : AllByRecursion (λ c. shard_of_key workers c.rec.key ≡ p.0) p.1.mailbox.messages
  pub items : AllByRecursion (λ w. AllByRecursion (λ a. shard_of_key workers a.key ≡ p.0) w.1) p.1.waiting
  pub once : IsStrictlySortedBy noted_cmp (keys_of p.1.waiting)

-- a shard in which nothing waits
abbrev pub empty_shard : Shard
empty_shard = record { mailbox = record { runs = 0; room = 0; messages = [] }; waiting = [] }

-- WHAT A HALL KEEPS TRUE: its state is one that plays reach, its table has the active pointstamps of that state, and what it looks up
-- is of its plan
pub record IsHall (answers : Answers) (h : Parts) : Type 0 where
  pub reached : IsReached answers (state_of h)
  pub counted : IsSameBag h.table.stamps (active (state_of h))
  pub inputs : h.inputs.items ≡ inputs_of h.table.plan
  pub shards : AllByRecursion (IsShard (length h.shards.items)) (enumerate_from 0 h.shards.items)
  pub few : length h.shards.items ≤ 16
  pub next : h.next ≤ ends
  pub routes : IsRoutes h.table.plan h.routes
