-- The states that plays lead to: what a hall keeps by its type.
use Rattle.std.specs.Prelude.{ℕ, ◌≤◌, List}
use Rattle.td_stamp.specs.States.{StateList, AreStates}
use Rattle.td_plan.specs.Lines.{Line}
use Rattle.td_plan.specs.Faults.{IsPlan}
use Rattle.td_calls.specs.Answers.{Answers}
use Rattle.td_machine.specs.State.{HallState}
use Rattle.td_machine.specs.Steps.{Event, Answer, Plays, opened}

-- REACHED: some play from an opening leads here
pub record IsReached (answers : Answers) (S : HallState) : Type 0 where
  pub plan : List Line
  pub states : StateList
  pub first : ℕ
  pub workers : ℕ
  pub events : List Event
  pub replies : List Answer
  pub lawful : IsPlan plan
  pub ordered : AreStates states
  pub from_one : 1 ≤ first
  pub some_worker : 1 ≤ workers
  pub plays : Plays answers (opened plan states first workers) events replies S
