-- A ring of cells, what is read of it, and what a call makes of it.
use Rattle.std.specs.Prelude.{◌≡◌, ◌↔◌, ℕ, ◌+◌, ◌-◌, ◌^◌, ◌<◌, ◌≤◌, true, List, length, All, Option, Result, IfErr, IsErrOf}
use Rattle.td_stamp.specs.declared.values.Entry.{Entry}
use Rattle.td_disk.specs.Disk.{DiskView}
use Rattle.td_gate.specs.CrashSafe.{CrashSafe}
use Rattle.td_gate.specs.Region.{IsSettled}
use Rattle.td_gate.specs.Steps.{HasPut, SameUnless}
use Rattle.td_journal.specs.declared.journal.Journal.{Journal}
use Rattle.td_journal.specs.declared.payload.Submitted.{Submitted}
use Rattle.td_journal.specs.declared.error.JournalError.{JournalError}
use Rattle.td_journal.specs.declared.error.JournalError.TheVariants.{Full, TooManyRecords, Device}
use Rattle.td_journal.specs.Cell.{cell_of, cell_bytes, is_batch, ring_len}
use Rattle.td_journal.specs.Images.{Clears, IsGone}
use Rattle.td_journal.specs.Parsed.{AreKept, Told, Refused}
use Rattle.td_journal.specs.Refusals.{IsFailureOr, IsAppendRefusal}
use Rattle.td_journal.specs.Ring.{told_after}

-- A RING LIES IN so many bytes: it has a cell, a cell holds at most 65,536 records, and its cells end there.
pub record HasRing (j : Journal) (capacity : ℕ) : Type 0 where
  pub cells : 0 < j.n
  pub records : j.m ≤ 65536
  pub room : j.at + ring_len j.m j.n ≤ capacity

-- IT MAY BE READ from a checkpoint on: it has at most 65,536 cells, and the checkpoint's epoch is below 2 ^ 63.
pub record MayReadFrom (j : Journal) (capacity checkpoint : ℕ) : Type 0 where
  pub ring : HasRing j capacity
  pub few : j.n ≤ 65536
  pub small : checkpoint < 2 ^ 63

-- So many epochs have room in a ring, and the last of them is below 2 ^ 63.
pub record FitsRing (j : Journal) (checkpoint count : ℕ) : Type 0 where
  pub few : count ≤ j.n
  pub below : checkpoint + count < 2 ^ 63

-- WHAT A RING MAY TELL, whatever the disk: batches of these inputs, no more than it has cells, of epochs below 2 ^ 63.
pub record MayBeTold (inputs : List ℕ) (j : Journal) (checkpoint : ℕ) (w : List Submitted) : Type 0 where
  pub batches : All (λ s. is_batch inputs s.batch ≡ true) w
  pub few : length w ≤ j.n
  pub below : checkpoint + length w < 2 ^ 63

module _ {D : Type 0} (view : D → DiskView) where
  -- THE RING OF A LAWFUL DISK TELLS THIS of the epochs after a checkpoint
  abbrev pub RingTells : List ℕ → Journal → Option ℕ → ℕ → Result (List Submitted) JournalError → D → Type 0
  RingTells inputs j floor checkpoint answer d = (view d).lawful → told_after inputs j (view d).state.bytes floor checkpoint ≡ answer

  -- the device failed, memory ran out, or the ring of a lawful disk tells this refusal
  abbrev pub RingRefuses : List ℕ → Journal → Option ℕ → ℕ → JournalError → D → Type 0
  RingRefuses inputs j floor checkpoint e d = IsFailureOr ((view d).lawful → told_after inputs j (view d).state.bytes floor checkpoint ≡ Refused e) e

  -- this is what is kept of each of the epochs that the ring of a lawful disk tells
  abbrev pub IsKeptOfRing : {X : Type 0} → (Submitted → X) → List ℕ → Journal → Option ℕ → ℕ → List X → D → Type 0
  IsKeptOfRing of inputs j floor checkpoint kept d =
      AreKept of inputs (λ w. (view d).lawful → told_after inputs j (view d).state.bytes floor checkpoint ≡ Told w) kept

  -- A SETTLED CELL IS CLEARED of an epoch: a crash leaves it as it was, or closed where it bears that
  abbrev pub ClearsSafely : Journal → ℕ → D → D → Type 0
  ClearsSafely j epoch old new = (view old).lawful → IsSettled (cell_of j epoch) (view old).state → CrashSafe (Clears j epoch) (view old).state (view new).state

  -- then no image has it there
  abbrev pub LeavesGone : Journal → ℕ → D → D → Type 0
  LeavesGone j epoch old new = (view old).lawful → IsSettled (cell_of j epoch) (view old).state → IsGone j epoch (view new).state

  -- AN EPOCH IS PUT into its cell by a call
  abbrev pub PutsEpoch : {T : Type 0} → Journal → ℕ → ℕ → List Entry → Result T JournalError → D → D → Type 0
  PutsEpoch j epoch request batch result old new = HasPut view (cell_of j epoch) (cell_bytes j.m epoch request batch) result old new

-- AN EPOCH IS NOT APPENDED where no cell is free for it; then where it has too many records; then where memory runs out. In these cases the disk is not
-- called. Then where the device fails.
pub record RefusesAppend {T D : Type 0} (j : Journal) (epoch : ℕ) (batch : List Entry) (result : Result T JournalError) (old new : D) : Type 0 where
  pub full : IsErrOf result Full ↔ (j.n < epoch - j.kept)
  pub too_many : IsErrOf result TooManyRecords ↔ ((epoch - j.kept ≤ j.n) × (j.m < length batch))
  pub refusals : IfErr result IsAppendRefusal
  pub untouched : IfErr result (λ e. SameUnless Device e old new)
