-- What a call of a keeper comes to: what a crash leaves of the disk, and its refusals.
use Rattle.std.specs.Prelude.{◌≡◌, ◌⊎◌, ℕ, ◌+◌, ◌≤◌, true, false, List, [], Option, Some, None, Result, Ok, Err}
use Rattle.td_stamp.specs.declared.values.Entry.{Entry}
use Rattle.td_plan.specs.Lines.{Line}
use Rattle.td_calls.specs.Answers.{Answers}
use Rattle.td_disk.specs.Disk.{DiskView, DiskState}
use Rattle.td_gate.specs.CrashSafe.{CrashSafe, Unchanged}
use Rattle.td_journal.specs.declared.payload.Submitted.{Submitted}
use Rattle.td_store.specs.declared.standing.error.KeeperError.{KeeperError}
use Rattle.td_store.specs.declared.standing.error.KeeperError.TheVariants.{Memory, Device, TooManyKeys}
use Rattle.td_store.specs.standing.Standing.{last_epoch}
use Rattle.td_store.specs.standing.Advanced.{SinceAdvance, AdvancesSince, HeldWhere}
use Rattle.td_store.specs.standing.Told.{Told}
use Rattle.td_store.specs.standing.Tells.{Keeps}
use Rattle.td_store.specs.standing.Read.{Stood}
use Rattle.td_keeper.specs.declared.receipt.Receipt.{Receipt}
use Rattle.td_keeper.specs.Keeping.{Keeping, KeepsSince, FreeAreShut, with_batch, with_group, with_checkpoint}
use Rattle.td_keeper.specs.Refused.{submit_refusal, submit_as_refusal, group_refusal, write_refusal, close_refusal}
use Rattle.td_keeper.specs.Received.{IsReceived}
use Rattle.td_keeper.specs.Grouped.{AllOrNone}

-- an answer without what it hands back
abbrev pub outcome : {T E B : Type 0} → Result T (E × B) → Result T E
outcome (Ok answer) = Ok answer
outcome (Err refused) = Err refused.0

-- the disk of a keeper that was opened, or the one that came back
abbrev pub disk_in : {D E : Type 0} → Result (Keeping D) (E × D) → D
disk_in (Ok keeper) = keeper.device
disk_in (Err refused) = refused.1

-- WHAT A CRASH LEAVES of a call that submits these, of the disk before and after it
pub record CrashLeaves {D : Type 0} (answers : Answers) (x : List Submitted) (k : Keeping D) (before after : DiskState) : Type 0 where
  -- what a crash may leave after the call is among what it may leave since the start
  pub later : before.moment ≤ after.moment
  -- in each image since the start the disk tells an advance of the standing with these, which holds every epoch of the standing
  pub images : k.broken ≡ false → SinceAdvance answers k.plan k.standing x (last_epoch k.standing) before.moment after
  -- each image since an earlier moment was one by the start, or the disk tells such an advance in it
  pub further : k.broken ≡ false → AdvancesSince answers k.plan k.standing x (last_epoch k.standing) before after
  -- each such image was one by the start, or it keeps nothing beyond the base
  pub short : KeepsSince k.plan k.base before after

-- A BATCH IS SUBMITTED: it is acknowledged as the last epoch
pub record IsSubmitted {D : Type 0} (batch : List Entry) (epoch : ℕ) (old new : Keeping D) : Type 0 where
  pub accepted : submit_refusal old batch ≡ None
  pub submitted : new ≡ with_batch old new.device 0 batch
  pub last : epoch ≡ last_epoch new.standing

-- A REQUEST IS ANSWERED: the batch is acknowledged, or the number is there already
pub record IsAnswered {D : Type 0} (request : ℕ) (batch : List Entry) (receipt : Receipt) (old new : Keeping D) : Type 0 where
  pub accepted : submit_as_refusal old request batch ≡ None
  pub received : IsReceived request batch receipt old new

-- A GROUP IS SUBMITTED: all of it is acknowledged, as the epochs from the first up to the end
pub record IsAllSubmitted {D : Type 0} (group : List Submitted) (first end : ℕ) (old new : Keeping D) : Type 0 where
  pub accepted : group_refusal old group ≡ None
  pub submitted : new ≡ with_group old new.device group
  pub first_is : first ≡ last_epoch old.standing + 1
  pub end_is : end ≡ last_epoch new.standing + 1

-- A SUBMIT IS REFUSED, with this error, where these are the errors of memory and of the device
pub record IsRefused {D E : Type 0} (view : D → DiskView) (answers : Answers) (memory device : E) (refusal : Option E) (error : E) (old new : Keeping D) : Type 0 where
  -- by the first cause that holds; where none does, for want of memory, or by the device
  pub cause : (refusal ≡ Some error) ⊎ ((refusal ≡ None) × ((error ≡ memory) ⊎ (error ≡ device)))
  -- the keeper is as it was, but for its device where memory ran out; where the device failed, it is broken
  pub unchanged : (new ≡ old) ⊎ ((error ≡ memory) × (new ≡ record old { device = new.device })) ⊎ ((error ≡ device) × (new ≡ record old { device = new.device; broken = true }))
  pub broken : error ≡ device → new.broken ≡ true
  -- for want of memory nothing was written
  pub unwritten : error ≡ memory → (view old.device).lawful → CrashSafe Unchanged (view old.device).state (view new.device).state
  -- after any refusal but the device's a crash leaves an advance of the standing without what was refused
  pub nothing : (error ≡ device) ⊎ ((view old.device).lawful → old.broken ≡ false
      → AdvancesSince answers old.plan old.standing [] (last_epoch old.standing) (view old.device).state (view new.device).state)

module _ {D : Type 0} (error : KeeperError) (old new : Keeping D) where
  -- A CUT IS NOT WRITTEN: by the first cause that holds; where none does, for want of memory, or by the device. Where it is not the device, nothing
  -- was written, since the disk is as it was
  pub record IsUnwritten : Type 0 where
    pub cause : (write_refusal old ≡ Some error) ⊎ ((write_refusal old ≡ None) × ((error ≡ Memory) ⊎ (error ≡ Device)))
    -- one of too many states waits no more
    pub too_many : error ≡ TooManyKeys → new ≡ record old { waiting = false }
    pub broken : error ≡ Device → new ≡ record old { device = new.device; broken = true; waiting = false }
    pub unchanged : (error ≡ TooManyKeys) ⊎ ((error ≡ Device) ⊎ (new ≡ old))

  -- CELLS ARE NOT CLOSED: the keeper is broken, or the device failed
  pub record IsUnclosed : Type 0 where
    pub cause : (close_refusal old ≡ Some error) ⊎ ((close_refusal old ≡ None) × (error ≡ Device))
    pub unchanged : (new ≡ old) ⊎ ((error ≡ Device) × (new ≡ record old { device = new.device; broken = true }))
    pub broken : error ≡ Device → new ≡ record old { device = new.device; broken = true }

-- THE CUT THAT WAITED IS WRITTEN: it is the checkpoint; or none waited
pub record IsWritten {D : Type 0} (written : Option ℕ) (old new : Keeping D) : Type 0 where
  pub accepted : write_refusal old ≡ None
  pub cut : ((written ≡ None) × (old.waiting ≡ false) × (new ≡ old)) ⊎ ((written ≡ Some old.base) × (new ≡ with_checkpoint old new.device))

-- CELLS ARE CLOSED that no epoch uses, so many of those that come next, and nothing else changed
pub record IsClosed {D : Type 0} (view : D → DiskView) (most : ℕ) (old new : Keeping D) : Type 0 where
  pub accepted : close_refusal old ≡ None
  pub same : new ≡ record old { device = new.device }
  pub closed : (view old.device).lawful → FreeAreShut old most (view new.device).state.bytes

module _ {D : Type 0} (view : D → DiskView) where
  -- what a crash leaves of a lawful disk, of the keeper before a call that submits these and after it
  abbrev pub LeavesAtCrash : Answers → List Submitted → Keeping D → Keeping D → Type 0
  LeavesAtCrash answers x old new = (view old.device).lawful → CrashLeaves answers x old (view old.device).state (view new.device).state

  -- a lawful disk holds what its keeper stands for
  abbrev pub HoldsStanding : Answers → Keeping D → Type 0
  HoldsStanding answers k = (view k.device).lawful → HeldWhere k.broken answers k.plan k.head k.side k.standing (view k.device).state

  -- the keeper of a lawful disk stands for what that tells then
  abbrev pub TellsStanding : List Line → D → Keeping D → Type 0
  TellsStanding plan disk k = (view disk).lawful → Told plan (view k.device).state.bytes (Stood k.standing)

  -- and for what that keeps, whatever a crash leaves
  abbrev pub KeepsStanding : List Line → D → Keeping D → Type 0
  KeepsStanding plan disk k = (view disk).lawful → Keeps plan k.head k.side k.standing (view k.device).state

  -- in each image since the start of a call the disk of a keeper that is not broken tells what that stands for
  abbrev pub TellsAllAlong : Keeping D → Keeping D → Type 0
  TellsAllAlong old new = (view old.device).lawful → old.broken ≡ false
      → (c : List ℕ) → (view new.device).state.since (view old.device).state.moment c → Told old.plan c (Stood old.standing)

  -- each image since an earlier moment was one by the start, or the disk tells it there
  abbrev pub TellsFurther : Answers → Keeping D → Keeping D → Type 0
  TellsFurther answers old new = (view old.device).lawful → old.broken ≡ false
      → AdvancesSince answers old.plan old.standing [] (last_epoch old.standing) (view old.device).state (view new.device).state

  -- what a crash may leave after the call is among what it may leave since the start
  abbrev pub ComesLater : Keeping D → Keeping D → Type 0
  ComesLater old new = (view old.device).lawful → old.broken ≡ false → (view old.device).state.moment ≤ (view new.device).state.moment

  -- in each image since the start the disk tells all of a group behind what it told, or none of it
  abbrev pub LeavesAllOrNone : List Submitted → Keeping D → Keeping D → Type 0
  LeavesAllOrNone group old new = (view old.device).lawful → old.broken ≡ false
      → AllOrNone old.plan old.standing group (view old.device).state.moment (view new.device).state

  -- where so many of the free cells that come next are closed, nothing is written
  abbrev pub LeavesShutAlone : ℕ → Keeping D → Keeping D → Type 0
  LeavesShutAlone most old new = (view old.device).lawful → FreeAreShut old most (view old.device).state.bytes
      → CrashSafe Unchanged (view old.device).state (view new.device).state
