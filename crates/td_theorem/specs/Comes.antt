-- What an engine comes to that is opened where a disk stands.
use Rattle.std.specs.Prelude.{◌≡◌, ℕ, ◌+◌, ◌-◌, ◌<◌, ◌≤◌, List, [], ◌++◌, take, drop, flat_map, All, None}
use Rattle.td_plan.specs.Lines.{Line}
use Rattle.td_plan.specs.Tree.{tree_of}
use Rattle.td_calls.specs.Answers.{Answers}
use Rattle.td_batch.specs.Meaning.{states_after}
use Rattle.td_machine.specs.State.{HallState}
use Rattle.td_machine.specs.Steps.{Event, Answer, Step, Plays, opened, collect_step}
use Rattle.td_machine.specs.Steps.Event.{taking}
use Rattle.td_machine.specs.Steps.Answer.{has_taken, has_cut}
use Rattle.td_machine.specs.Sound.{outs_by, batches_of as released}
use Rattle.td_journal.specs.declared.payload.Submitted.{Submitted}
use Rattle.td_store.specs.standing.Standing.{Standing, batches_of}
use Rattle.td_keeper.specs.Acknowledged.{outs_of}

-- a cut that is answered has the states to which the history comes after its epoch
abbrev pub HasStatesOf : Answers → List Line → List Submitted → ℕ → Answer → Type 0
HasStatesOf answers plan history from (has_cut e at) = from ≤ e → at ≡ states_after answers (tree_of plan) [] (batches_of history) e
HasStatesOf answers plan history from _ = Unit {0}

-- WHAT A PLAY COMES TO: outputs after an epoch, as far as it collected; at its cuts the history's states; with no task left, all.
pub record ComesTo (answers : Answers) (plan : List Line) (history : List Submitted) (from workers : ℕ) (replies : List Answer) (S : HallState) : Type 0 where
  pub outs : flat_map outs_by replies ≡ take (S.collected - from) (drop from (outs_of answers plan history))
  pub cuts : All (HasStatesOf answers plan history from) replies
  pub all : ((w : ℕ) → w < workers → Step answers S (taking w) (has_taken None) S) → flat_map outs_by replies ++ outs_by (collect_step S).0 ≡ drop from (outs_of answers plan history)

-- AN ENGINE OPENED at a standing, and given its batches and perhaps more, comes to the rest, in whatever order its tasks fall.
abbrev pub ComesToTheRest : Answers → List Line → Standing → List Submitted → Type 0
ComesToTheRest answers plan s history = (workers : ℕ) (events : List Event) (replies : List Answer) (S : HallState) (more : List Submitted) → 1 ≤ workers
    → Plays answers (opened plan s.states (s.epoch + 1) workers) events replies S
    → released events replies ≡ batches_of (s.submitted ++ more)
    → ComesTo answers plan (history ++ more) s.epoch workers replies S
