-- Exact work, as laws over plays.
use Rattle.std.specs.Prelude.{◌≡◌, ℕ, ◌≤◌, ◌<◌, true, List, None}
use Rattle.td_stamp.specs.States.{StateList, AreStates}
use Rattle.td_plan.specs.Lines.{Line}
use Rattle.td_plan.specs.Faults.{IsPlan}
use Rattle.td_calls.specs.Answers.{Answers}
use Rattle.td_machine.specs.State.{HallState}
use Rattle.td_machine.specs.Active.{has_passed}
use Rattle.td_machine.specs.Steps.{Event, Answer, Step, Plays, opened}
use Rattle.td_machine.specs.Steps.Event.{taking}
use Rattle.td_machine.specs.Steps.Answer.{has_taken}
use Rattle.td_machine.specs.Sound.{batches_of}
use Rattle.td_machine.specs.Tally.{records_in, notes_in, tally}
use Rattle.td_machine.specs.Work.{Records, Notes}

-- what a play gave is the deliveries of the batch meaning's run of what it released
pub record WorkIs (answers : Answers) (plan : List Line) (states : StateList) (workers : ℕ) (events : List Event) (replies : List Answer) : Type 0 where
  pub records : tally records_in events replies ≡ Records answers plan states (batches_of events replies)
  pub notes : tally notes_in events replies ≡ Notes workers answers plan states (batches_of events replies)

-- EXACT WORK: where every released epoch has passed, a play has given as many records and notifications as the batch
-- meaning has, whatever order the takes and gives fell in
abbrev pub ExactWork : Answers → Type 0
ExactWork answers = (plan : List Line) (states : StateList) (first workers : ℕ) (events : List Event) (replies : List Answer) (S : HallState)
    → IsPlan plan → AreStates states → 1 ≤ first → 1 ≤ workers
    → Plays answers (opened plan states first workers) events replies S
    → ((e : ℕ) → first ≤ e → e < S.next → has_passed S e ≡ true)
    → WorkIs answers plan states workers events replies

-- so it has where no shard has a task that may be taken
abbrev pub ExactWorkDrained : Answers → Type 0
ExactWorkDrained answers = (plan : List Line) (states : StateList) (first workers : ℕ) (events : List Event) (replies : List Answer) (S : HallState)
    → IsPlan plan → AreStates states → 1 ≤ first → 1 ≤ workers
    → Plays answers (opened plan states first workers) events replies S
    → ((s : ℕ) → s < workers → Step answers S (taking s) (has_taken None) S)
    → WorkIs answers plan states workers events replies
