-- A disk that is made to tell what another one tells. Its head comes last.
use Rattle.std.specs.Prelude.{◌≡◌, ◌⊎◌, ℕ, ◌+◌, ◌≤◌, ◌<◌, true, slice_index, List, Option, Some, None, Ok}
use Rattle.td_plan.specs.Lines.{Line}
use Rattle.td_disk.specs.Disk.{DiskView, DiskState}
use Rattle.td_gate.specs.Region.{opened}
use Rattle.td_head.specs.Layout.{Sizes, head_a, head_b, size_of}
use Rattle.td_slots.specs.Newest.{newest}
use Rattle.td_journal.specs.declared.journal.Journal.{Journal}
use Rattle.td_journal.specs.Cell.{cell_of}
use Rattle.td_journal.specs.Numbers.{rise}
use Rattle.td_journal.specs.Ring.{told_after}
use Rattle.td_store.specs.standing.Standing.{Standing}
use Rattle.td_store.specs.standing.Told.{Told, inputs_of, folds_of, slots_of, ring_of}
use Rattle.td_store.specs.standing.Tells.{Keeps, TellsSince, checkpoint_of, first_head}
use Rattle.td_store.specs.standing.Read.{Stood, Refused}
use Rattle.td_store.specs.declared.standing.error.KeeperError.TheVariants.{NotFormatted}
use Rattle.td_store.specs.copy.Room.{room_fault}
use Rattle.td_store.specs.copy.Until.{told_until, copy_fault}

-- NO HEAD IS OPEN, as in a file of zeros.
pub record HasNoHead (image : List ℕ) : Type 0 where
  pub first : opened head_a image ≡ None
  pub second : opened head_b image ≡ None

-- In each image of a disk none is.
abbrev pub EachHasNoHead : DiskState → Type 0
EachHasNoHead state = (c : List ℕ) → state.images c → HasNoHead c

-- The bytes from one place up to another are 0.
pub record IsZeroBetween (at end : ℕ) (image : List ℕ) : Type 0 where
  pub each : (i : ℕ) → at ≤ i → i < end → slice_index image i ≡ 0

-- Behind heads that are closed an image has the checkpoint of a standing in slot 0, and its batches after it.
pub record HasParts (plan : List Line) (sizes : Sizes) (s : Standing) (image : List ℕ) : Type 0 where
  pub no_head : HasNoHead image
  pub slot : newest 2 (folds_of plan) (slots_of sizes) image ≡ Ok (checkpoint_of 0 s)
  pub cells : told_after (inputs_of plan) (ring_of sizes s.epoch) image (Some s.last) s.epoch ≡ Ok s.submitted

-- The cells for the epochs after the i-th from a checkpoint on, up to the n-th, are closed.
abbrev pub AreClosedAfter : Journal → ℕ → List ℕ → Type 0
AreClosedAfter j i image = (k : ℕ) → i < k → k ≤ j.n → opened (cell_of j (j.kept + k)) image ≡ None

-- Each image since a moment up to old was one by then, or no head of it is open.
pub record OpensNoHead (old new : DiskState) : Type 0 where
  pub later : old.moment ≤ new.moment
  pub each : (t : ℕ) (c : List ℕ) → t ≤ old.moment → new.since t c → old.since t c ⊎ HasNoHead c

-- The numbers of a standing's epochs rise, as they do where a disk tells it.
abbrev pub IsRising : Standing → Type 0
IsRising s = rise (Some s.last) s.submitted ≡ true

-- ONE STANDING IS TOLD by each image of a disk.
abbrev pub EachTold : List Line → Standing → DiskState → Type 0
EachTold plan s state = (c : List ℕ) → state.images c → Told plan c (Ok s)

-- A DISK IS COPIED: of a standing that the old one tells, whatever a crash leaves of that, the new one keeps what there is up to an epoch
abbrev pub CopiesTold : {D E : Type 0} → (D → DiskView) → (E → DiskView) → List Line → Option ℕ → Sizes → D → D → E → Type 0
CopiesTold view new_view plan until sizes old left new = (view old).lawful → (new_view new).lawful
    → (s : Standing) × EachTold plan s (view left).state
    × (copy_fault until sizes s ≡ None) × Keeps plan (first_head sizes) 0 (told_until until s) (new_view new).state

module _ {D : Type 0} (view : D → DiskView) where
  -- a disk of these sizes has room for the standing, and the disk is as large
  abbrev pub HasRoomOn : Sizes → Standing → D → Type 0
  HasRoomOn sizes s d = (room_fault sizes s ≡ None) × (size_of sizes ≤ (view d).capacity)

  -- A STANDING IS PUT ON A DISK: it keeps that, whatever a crash leaves
  abbrev pub KeepsPut : List Line → Sizes → Standing → D → D → Type 0
  KeepsPut plan sizes s old new = (view old).lawful → IsRising s → Keeps plan (first_head sizes) 0 s (view new).state

  -- wherever that stops, an image is one of before, or not formatted, or it tells the standing
  abbrev pub TellsPutOrNothing : List Line → Standing → D → D → Type 0
  TellsPutOrNothing plan s old new = (view old).lawful → IsRising s
      → TellsSince (λ c. Told plan c (Refused NotFormatted)) (λ c. Told plan c (Stood s)) (view old).state (view new).state
