-- What a disk tells after a stop, as a function of its bytes.
use Rattle.std.specs.Prelude.{◌≡◌, ℕ, Bool, true, false, nat_le, List, filter, map, Option, Some, None, Result, Ok, Err}
use Rattle.td_plan.specs.Lines.{Line}
use Rattle.td_plan.specs.Blocks.{vertices}
use Rattle.td_plan.specs.Faults.{is_input, is_fold}
use Rattle.td_head.specs.declared.error.HeadError.{HeadError}
use Rattle.td_head.specs.declared.head.Head.{Head}
use Rattle.td_head.specs.Layout.{Sizes, slots_at, cells_at}
use Rattle.td_head.specs.Head.{headed, TellsCanonical}
use Rattle.td_slots.specs.declared.error.SlotsError.{SlotsError}
use Rattle.td_slots.specs.declared.slots.Slots.{Slots}
use Rattle.td_slots.specs.declared.slots.Checkpoint.{Checkpoint}
use Rattle.td_slots.specs.Newest.{newest}
use Rattle.td_journal.specs.declared.error.JournalError.{JournalError}
use Rattle.td_journal.specs.declared.journal.Journal.{Journal}
use Rattle.td_journal.specs.declared.payload.Submitted.{Submitted}
use Rattle.td_journal.specs.Ring.{told_after}
use Rattle.td_store.specs.declared.standing.error.KeeperError.{KeeperError}
use Rattle.td_store.specs.standing.Refusals.{of_head, of_slots, of_journal}
use Rattle.td_store.specs.standing.Standing.{Standing, standing_from}

-- the numbers of a plan's inputs, and of its folds
abbrev pub inputs_of : List Line → List ℕ
inputs_of plan = map (λ p. p.vertex.number) (filter (λ p. is_input p.vertex.kind) (vertices plan))

abbrev pub folds_of : List Line → List ℕ
folds_of plan = map (λ p. p.vertex.number) (filter (λ p. is_fold p.vertex.kind) (vertices plan))

-- the slots and the ring of a disk of these sizes
abbrev pub slots_of : Sizes → Slots
slots_of sizes = record { at = slots_at; k = sizes.k }

abbrev pub ring_of : Sizes → ℕ → Journal
ring_of sizes kept = record { at = cells_at sizes; m = sizes.m; n = sizes.n; kept = kept }

-- the number above which the requests after a checkpoint are: before version 2 there are no requests, and so no floor
abbrev pub floor_of : ℕ → ℕ → Option ℕ
floor_of version last = elim (nat_le 2 version) [ true ↦ Some last | false ↦ None ]

-- a checkpoint with the batches after it
abbrev pub with_batches : Checkpoint → Result (List Submitted) JournalError → Result Standing KeeperError
with_batches c (Ok w) = Ok (standing_from c w)
with_batches c (Err e) = Err (of_journal e)

abbrev pub from_checkpoint : List Line → Head → List ℕ → Result Checkpoint SlotsError → Result Standing KeeperError
from_checkpoint plan head image (Ok c) = with_batches c (told_after (inputs_of plan) (ring_of head.shape c.epoch) image (floor_of head.version c.last) c.epoch)
from_checkpoint plan head image (Err e) = Err (of_slots e)

-- what the slots and the ring tell
abbrev pub told_in : List Line → Head → List ℕ → Result Standing KeeperError
told_in plan head image = from_checkpoint plan head image (newest head.version (folds_of plan) (slots_of head.shape) image)

abbrev pub from_head : List Line → List ℕ → Result Head HeadError → Result Standing KeeperError
from_head plan image (Ok head) = told_in plan head image
from_head plan image (Err e) = Err (of_head e)

-- what an image tells for a plan, where the text of its head is canonical, or is not
abbrev pub told : Bool → List Line → List ℕ → Result Standing KeeperError
told canonical plan image = from_head plan image (headed canonical plan image)

-- WHAT AN IMAGE TELLS for a plan: a standing, or the first refusal
pub record Told (plan : List Line) (image : List ℕ) (answer : Result Standing KeeperError) : Type 0 where
  pub canonical : Bool
  pub text : TellsCanonical canonical image
  pub is : told canonical plan image ≡ answer
