-- What is read of a disk.
use Rattle.std.specs.Prelude.{◌≡◌, ℕ, ◌^◌, ◌<◌, ◌≤◌, true, List, length, map, All, Result, Ok, Err}
use Rattle.td_plan.specs.Lines.{Line}
use Rattle.td_disk.specs.Disk.{DiskView, IsDurable}
use Rattle.td_head.specs.declared.head.Head.{Head}
use Rattle.td_slots.specs.Slot.{are_states}
use Rattle.td_journal.specs.Cell.{is_batch}
use Rattle.td_journal.specs.Counts.{counts_of}
use Rattle.td_journal.specs.declared.payload.Submitted.{Submitted}
use Rattle.td_store.specs.declared.standing.parts.Counted.{Counted}
use Rattle.td_store.specs.declared.standing.parts.Recovered.{Recovered}
use Rattle.td_store.specs.declared.standing.error.KeeperError.{KeeperError}
use Rattle.td_store.specs.standing.Standing.{Standing, standing_from, last_epoch}
use Rattle.td_store.specs.standing.Refusals.{IsFailureOr}
use Rattle.td_store.specs.standing.Tells.{Tells, Keeps}
use Rattle.td_store.specs.standing.Told.{Told, inputs_of, folds_of}

-- the standing of what was read
abbrev pub standing_of : Recovered → Standing
standing_of r = standing_from r.checkpoint r.submitted.items

-- what was counted is of a standing of which this holds
abbrev pub IsCounted : Counted → (Standing → Type 0) → Type 0
IsCounted c Stands = (w : List Submitted) × (map counts_of w ≡ c.submitted.items) × Stands (standing_from c.checkpoint w)

-- WHAT MAY STAND on a disk with this head, the checkpoint in this slot: batches of the plan's inputs, no more than there are
-- cells, of epochs below 2 ^ 63, and states of its folds. What is read of a disk is such, also where the disk keeps no law
pub record MayStand (plan : List Line) (head : Head) (side : ℕ) (s : Standing) : Type 0 where
  pub which : side ≤ 1
  pub states : are_states (folds_of plan) s.states ≡ true
  pub batches : All (λ x. is_batch (inputs_of plan) x.batch ≡ true) s.submitted
  pub few : length s.submitted ≤ head.shape.n
  pub small : last_epoch s < 2 ^ 63

-- the two answers
abbrev pub Stood : Standing → Result Standing KeeperError
Stood s = Ok s

abbrev pub Refused : KeeperError → Result Standing KeeperError
Refused e = Err e

module _ {D : Type 0} (view : D → DiskView) where
  -- WHAT WAS READ is what a lawful disk tells
  abbrev pub IsRecovered : List Line → Recovered → D → Type 0
  IsRecovered plan r d = (view d).lawful → Tells plan r.head r.checkpoint.slot (standing_of r) (view d).state.bytes

  -- what was read is what the disk keeps then, whatever a crash leaves
  abbrev pub KeepsRecovered : List Line → Recovered → D → D → Type 0
  KeepsRecovered plan r old new = (view old).lawful → Keeps plan r.head r.checkpoint.slot (standing_of r) (view new).state

  -- what was counted is of a standing that may stand on the disk, and that it tells
  abbrev pub IsCountedOf : List Line → Counted → D → Type 0
  IsCountedOf plan c d = IsCounted c (λ s. MayStand plan c.head c.checkpoint.slot s
      × ((view d).lawful → Tells plan c.head c.checkpoint.slot s (view d).state.bytes))

  -- what was counted is of a standing that may stand on the disk, and that it keeps then, whatever a crash leaves
  abbrev pub KeepsCounted : List Line → Counted → D → D → Type 0
  KeepsCounted plan c old new = IsCounted c (λ s. MayStand plan c.head c.checkpoint.slot s
      × ((view old).lawful → Keeps plan c.head c.checkpoint.slot s (view new).state))

  -- the device failed, memory ran out, or a lawful disk tells this refusal
  abbrev pub DiskRefuses : List Line → KeeperError → D → Type 0
  DiskRefuses plan e d = IsFailureOr ((view d).lawful → Told plan (view d).state.bytes (Refused e)) e

  -- the device failed, memory ran out, or a lawful disk tells this refusal after a sync
  abbrev pub SyncedRefuses : List Line → KeeperError → D → D → Type 0
  SyncedRefuses plan e old new = IsFailureOr ((view old).lawful → IsDurable (view new).state × Told plan (view new).state.bytes (Refused e)) e
