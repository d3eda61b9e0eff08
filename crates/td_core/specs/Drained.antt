-- What a drain delivers, and what it leaves.
use Rattle.std.specs.Prelude.{◌≡◌, ℕ, ◌+◌, ◌*◌, ◌<◌, ◌≤◌, ◌⊎◌, List, [], length, Option, Some, None}
use Rattle.std.specs.List.{AllByRecursion}
use Rattle.td_stamp.specs.States.{StateList, AreStates}
use Rattle.td_plan.specs.Lines.{Line}
use Rattle.td_plan.specs.Faults.{IsPlan}
use Rattle.td_calls.specs.Answers.{Answers}
use Rattle.td_machine.specs.State.{HallState, Task}
use Rattle.td_machine.specs.Steps.{Event, Answer, Plays, Takes, Gives, opened, task_size}
use Rattle.td_machine.specs.Steps.Event.{taking, give}
use Rattle.td_machine.specs.Steps.Answer.{refused, has_taken, has_given}
use Rattle.td_machine.specs.Steps.Refusal.{spent}
use Rattle.td_machine.specs.Sound.{batches_of}
use Rattle.td_machine.specs.Tally.{records_in, notes_in, tally}
use Rattle.td_machine.specs.Work.{Records, Notes}
use Rattle.td_core.specs.declared.error.HallError.{HallError}
use Rattle.td_core.specs.declared.error.HallError.TheVariants.{Memory, Spent}
use Rattle.td_core.specs.declared.hall.Parts.{Parts}
use Rattle.td_core.specs.declared.drain.Drained.{Drained}
use Rattle.td_core.specs.Parts.{state_of, IsHall}

-- a take or a give
abbrev pub IsWork : Event → Type 0
IsWork (taking shard) = Unit {0}
IsWork (give task) = Unit {0}
IsWork _ = ⊥

-- TAKES AND GIVES ALONE lead from one state to another; so many records and notifications were given on the way
pub record Works (answers : Answers) (S : HallState) (records notifications : ℕ) (T : HallState) : Type 0 where
  pub events : List Event
  pub replies : List Answer
  pub alone : AllByRecursion IsWork events
  pub plays : Plays answers S events replies T
  pub messages : tally records_in events replies ≡ records
  pub notes : tally notes_in events replies ≡ notifications

-- what takes and gives leave as it was
pub record IsKept (S T : HallState) : Type 0 where
  pub plan : T.plan ≡ S.plan
  pub workers : T.workers ≡ S.workers
  pub base : T.base ≡ S.base
  pub base_states : T.base_states ≡ S.base_states
  pub batches : T.batches ≡ S.batches
  pub next : T.next ≡ S.next
  pub closed : T.closed ≡ S.closed
  pub collected : T.collected ≡ S.collected

-- WHY A DRAIN IS REFUSED where no task was out, and it left this state: for want of memory, or since there is a task to take and all numbers
-- are used
abbrev pub IsWhy : HallState → HallError → Type 0
IsWhy T error = (error ≡ Memory) ⊎ ((error ≡ Spent) × ((shard : ℕ) × (shard < T.workers) × Takes T shard (refused spent) T))

-- EXACT WORK of a drain: whatever play led from an opening to the state that is drained, what that play gave and what the drain delivered
-- are together the deliveries of the batch meaning of all that the play released
abbrev pub IsExact : Answers → HallState → ℕ → ℕ → Type 0
IsExact answers S records notifications = (plan : List Line) (states : StateList) (first workers : ℕ) (events : List Event) (replies : List Answer)
    → IsPlan plan → AreStates states → 1 ≤ first → 1 ≤ workers
    → Plays answers (opened plan states first workers) events replies S
    → (tally records_in events replies + records ≡ Records answers plan states (batches_of events replies))
    × (tally notes_in events replies + notifications ≡ Notes workers answers plan states (batches_of events replies))

-- on a fresh hall, from which nothing was taken, the drain delivered all of them
abbrev pub IsExactFresh : Answers → HallState → ℕ → ℕ → Type 0
IsExactFresh answers S records notifications = (plan : List Line) (states : StateList) (first workers : ℕ) (events : List Event) (replies : List Answer)
    → IsPlan plan → AreStates states → 1 ≤ first → 1 ≤ workers
    → Plays answers (opened plan states first workers) events replies S
    → S.taken ≡ 0
    → (records ≡ Records answers plan states (batches_of events replies)) × (notifications ≡ Notes workers answers plan states (batches_of events replies))

-- STEP BY STEP: one task was taken of a shard and given, which delivered so much
pub record IsTurn (answers : Answers) (S : HallState) (shard : ℕ) (delivered : Drained) (T : HallState) : Type 0 where
  pub task : Task
  pub between : HallState
  pub takes : Takes S shard (has_taken (Some task)) between
  pub gives : Gives answers between task has_given T
  pub messages : delivered.messages ≡ records_in task.content
  pub notes : delivered.notes ≡ notes_in task.content

-- or the shard had none
abbrev pub IsTurnIf : Answers → HallState → ℕ → Option Drained → HallState → Type 0
IsTurnIf answers S shard None T = (T ≡ S) × Takes S shard (has_taken None) S
IsTurnIf answers S shard (Some delivered) T = IsTurn answers S shard delivered T

-- no task is out, and what was delivered is no more than tasks can have
pub record IsIdle (answers : Answers) (parts : Parts) (delivered : Drained) : Type 0 where
  pub hall : IsHall answers parts
  pub none_out : parts.out.items ≡ []
  pub messages : delivered.messages ≤ task_size * parts.given
  pub notes : delivered.notes ≤ parts.given

-- HOW FAR A DRAIN HAS COME: by takes and gives alone, which are counted, from one parts to another, both with no task out
pub record IsFurther (answers : Answers) (old : Parts) (before : Drained) (new : Parts) (after : Drained) : Type 0 where
  pub idle : IsIdle answers new after
  pub worked : (S : HallState) → Works answers S before.messages before.notes (state_of old) → Works answers S after.messages after.notes (state_of new)
  pub taken : old.taken ≤ new.taken
  pub same : new.taken ≡ old.taken → state_of new ≡ state_of old
  pub plan : new.table.plan ≡ old.table.plan
  pub shards : length new.shards.items ≡ length old.shards.items

-- no shard has a task
abbrev pub HasNone : HallState → Type 0
HasNone T = (shard : ℕ) → shard < T.workers → Takes T shard (has_taken None) T
