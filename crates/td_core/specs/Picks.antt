-- Which of the tasks that a shard may take a pick names, and how many records it has. Messages stand in no order in a state, so
-- which of them is not told here. `take` says by its public clause which notification, and that a smaller pick takes a message.
-- Which message is a private clause, of the mailbox as it was posted. A list of messages in that order would make each law of the
-- machine speak of it.
use Rattle.std.specs.Prelude.{◌≡◌, ℕ, ◌+◌, ◌-◌, ◌%◌, ◌==◌, ◌<◌, ◌≤◌, ◌&&◌, Bool, true, min, List, filter, length, Some, Contains, ◌↔◌}
use Rattle.std.specs.List.{slice_get}
use Rattle.std.specs.List.Sorted.{IsStrictlySortedBy}
use Rattle.td_machine.specs.declared.records.Message.{Message}
use Rattle.td_machine.specs.State.{HallState, Task, Content, shard_of_key, is_there}
use Rattle.td_machine.specs.State.Content.{messages, notification}
use Rattle.td_machine.specs.Active.{Frontier, stamp_at}
use Rattle.td_machine.specs.Steps.{is_asked, task_size}
use Rattle.td_shard.specs.declared.waiting.Noted.{Noted}
use Rattle.td_shard.specs.Asked.{noted_cmp, noted_at}

-- what a task has to do, of so many messages and, after them, these notifications: a message, or the notification at a place
abbrev pub IsAt : ℕ → List Noted → ℕ → Task → Content → Type 0
IsAt many notes place task (messages port recs) = place < many
IsAt many notes place task (notification items) = (many ≤ place) × (slice_get notes (place - many) ≡ Some (noted_at task.vertex task.time))

module _ (S : HallState) (shard : ℕ) where
  -- how many messages a shard has, at which no task is out
  abbrev pub messages_at : ℕ
  messages_at = length (filter (λ c. shard_of_key S.workers c.rec.key == shard) S.messages)

  -- whether a message is one of the shard's on the edge of a task, and of its time
  abbrev pub is_beside : Task → ℕ → Message → Bool
  is_beside task port c = (shard_of_key S.workers c.rec.key == shard) && ((c.port == port) && is_there task.vertex task.time c.vertex c.time)

  -- A FULL TASK has all records that wait on its edge, of its time and in its shard, or 64 of them
  abbrev pub IsFullOf : Task → Content → Type 0
  IsFullOf task (messages port recs) = length recs ≡ min task_size (length (filter (is_beside task port) S.messages))
  IsFullOf task (notification items) = Unit {0}

  abbrev pub IsFull : Task → Type 0
  IsFull task = IsFullOf task task.content

  -- THE NOTIFICATIONS that may be taken of a shard, those that it asked for and that are in the frontier: each once, by epoch, counters
  -- and vertex
  pub record AreOpen (notes : List Noted) : Type 0 where
    pub in_order : IsStrictlySortedBy noted_cmp notes
    pub each : (n : Noted) → Contains notes n ↔ ((is_asked S shard n.vertex n.time ≡ true) × Frontier S (stamp_at n.vertex n.time))

  -- THE TASK THAT A PICK NAMES, counted round among the messages of the shard and, after them, these notifications
  abbrev pub IsPick : ℕ → Task → Type 0
  IsPick pick task = (notes : List Noted) → AreOpen notes → IsAt messages_at notes (pick % (messages_at + length notes)) task task.content
