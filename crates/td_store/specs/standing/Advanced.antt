-- What an image tells after a stop, seen from the standing before it.
use Rattle.std.specs.Prelude.{◌⊎◌, ℕ, ◌≤◌, Bool, true, false, List, Ok}
use Rattle.td_stamp.specs.declared.values.Entry.{Entry}
use Rattle.td_stamp.specs.States.{StateList}
use Rattle.td_plan.specs.Lines.{Line}
use Rattle.td_plan.specs.Tree.{tree_of}
use Rattle.td_calls.specs.Answers.{Answers}
use Rattle.td_batch.specs.Meaning.{run}
use Rattle.td_disk.specs.Disk.{DiskState}
use Rattle.td_head.specs.declared.head.Head.{Head}
use Rattle.td_journal.specs.declared.payload.Submitted.{Submitted}
use Rattle.td_store.specs.standing.Standing.{Standing, with_more, last_epoch}
use Rattle.td_store.specs.standing.Stops.{Advance, Holds}
use Rattle.td_store.specs.standing.Told.{Told}
use Rattle.td_store.specs.standing.Tells.{Keeps}

-- the states to which the batch meaning of a plan comes
abbrev pub states_by : Answers → List Line → StateList → List (List Entry) → StateList
states_by answers plan states batches = (run answers (tree_of plan) states batches).states

-- AN IMAGE TELLS AN ADVANCE of a standing with what was submitted after it, which holds all epochs up to the n-th.
pub record TellsAdvance (answers : Answers) (plan : List Line) (s : Standing) (x : List Submitted) (n : ℕ) (image : List ℕ) : Type 0 where
  pub standing : Standing
  pub told : Told plan image (Ok standing)
  pub advance : Advance (states_by answers plan) (with_more s x) standing
  pub holds : Holds standing n

-- Each image since a moment does.
abbrev pub SinceAdvance : Answers → List Line → Standing → List Submitted → ℕ → ℕ → DiskState → Type 0
SinceAdvance answers plan s x n moment state = (c : List ℕ) → state.since moment c → TellsAdvance answers plan s x n c

-- Each image since a moment up to old was one by then, or it does.
abbrev pub AdvancesSince : Answers → List Line → Standing → List Submitted → ℕ → DiskState → DiskState → Type 0
AdvancesSince answers plan s x n old new = (t : ℕ) (c : List ℕ) → t ≤ old.moment → new.since t c → old.since t c ⊎ TellsAdvance answers plan s x n c

-- WHAT A DISK HOLDS FOR A KEEPER: its standing, image by image; and after a fault of the device in a call that writes, an
-- advance of it with what was then submitted, which holds all of its epochs.
abbrev pub HeldWhere : Bool → Answers → List Line → Head → ℕ → Standing → DiskState → Type 0
HeldWhere false answers plan head side s state = Keeps plan head side s state
HeldWhere true answers plan head side s state = (c : List ℕ) → state.images c → (x : List Submitted) × TellsAdvance answers plan s x (last_epoch s) c
