-- Two slots, what is read of them, and what a call makes of them.
use Rattle.std.specs.Prelude.{◌≡◌, ◌↔◌, ℕ, ◌+◌, ◌-◌, ◌*◌, ◌^◌, ◌<◌, ◌≤◌, true, List, length, Result, OnOk, IfErr, IsErrOf}
use Rattle.td_stamp.specs.States.{StateList}
use Rattle.td_disk.specs.Disk.{DiskView}
use Rattle.td_gate.specs.Reading.{Each}
use Rattle.td_gate.specs.Steps.{HasPut, SameUnless}
use Rattle.td_slots.specs.declared.slots.Slots.{Slots}
use Rattle.td_slots.specs.declared.slots.Checkpoint.{Checkpoint}
use Rattle.td_slots.specs.declared.error.SlotsError.{SlotsError}
use Rattle.td_slots.specs.declared.error.SlotsError.TheVariants.{TooManyKeys, Device}
use Rattle.td_slots.specs.Slot.{slot, slot_len, slot_bytes, is_last, are_states, FitsState}
use Rattle.td_slots.specs.Newest.{newest}
use Rattle.td_slots.specs.Parsed.{Refused}
use Rattle.td_slots.specs.SlotsError.{IsFailureOr, IsWriteRefusal}

-- TWO SLOTS LIE within so many bytes, and each holds at most 1,048,576 states.
pub record HasSlots (s : Slots) (bytes : ℕ) : Type 0 where
  pub limit : s.k ≤ 1048576
  pub room : s.at + 2 * (slot_len s.k + 1) ≤ bytes

-- WHAT A SLOT MAY HOLD, whatever the disk: an epoch below 2 ^ 63, a request number of this version, and states of these folds.
pub record MayBeHeld (version : ℕ) (folds : List ℕ) (c : Checkpoint) : Type 0 where
  pub slot : c.slot ≤ 1
  pub small : c.epoch < 2 ^ 63
  pub last : is_last version c.last ≡ true
  pub states : are_states folds c.states ≡ true

module _ {D : Type 0} (view : D → DiskView) where
  -- THE SLOTS OF A LAWFUL DISK TELL THIS
  abbrev pub SlotsTell : ℕ → List ℕ → Slots → Result Checkpoint SlotsError → D → Type 0
  SlotsTell version folds s answer d = (view d).lawful → newest version folds s (view d).state.bytes ≡ answer

  -- the device failed, memory ran out, or the slots of a lawful disk tell this refusal
  abbrev pub SlotsRefuse : ℕ → List ℕ → Slots → SlotsError → D → Type 0
  SlotsRefuse version folds s e d = IsFailureOr ((view d).lawful → newest version folds s (view d).state.bytes ≡ Refused e) e

  -- STATES ARE PUT into the slot that is not the newest, by a call
  abbrev pub PutsStates : {T : Type 0} → Slots → ℕ → ℕ → ℕ → StateList → Result T SlotsError → D → D → Type 0
  PutsStates s newest epoch last states result old new = HasPut view (slot s (1 - newest)) (slot_bytes s.k epoch last states) result old new

-- STATES ARE NOT WRITTEN where there are more than a slot of k holds; then where memory runs out. In both cases the disk is not called. Then where the
-- device fails.
pub record RefusesStates {T D : Type 0} (k : ℕ) (states : StateList) (result : Result T SlotsError) (old new : D) : Type 0 where
  pub too_many : IsErrOf result TooManyKeys ↔ (k < length states)
  pub refusals : IfErr result IsWriteRefusal
  pub untouched : IfErr result (λ e. SameUnless Device e old new)

-- THE STATES FIT wherever the disk was called: their fields do, and after Ok there are no more than a slot of k holds.
pub record StatesFit {T : Type 0} (k : ℕ) (states : StateList) (result : Result T SlotsError) : Type 0 where
  pub few : OnOk result (length states ≤ k)
  pub fits : OnOk result (Each FitsState states)
  pub fits_too : IsErrOf result Device → Each FitsState states
