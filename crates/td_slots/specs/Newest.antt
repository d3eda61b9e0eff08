-- The newest checkpoint that two slots hold.
use Rattle.std.specs.Prelude.{ℕ, zero, suc, ◌-◌, Bool, true, false, nat_lt, List, Option, Some, None, Result, Ok, Err}
use Rattle.td_stamp.specs.States.{StateList}
use Rattle.td_gate.specs.Fields.{front_in}
use Rattle.td_gate.specs.Region.{opened}
use Rattle.td_slots.specs.declared.slots.Slots.{Slots}
use Rattle.td_slots.specs.declared.slots.Checkpoint.{Checkpoint}
use Rattle.td_slots.specs.declared.error.SlotsError.{SlotsError}
use Rattle.td_slots.specs.declared.error.SlotsError.TheVariants.{Damaged, NoSlot}
use Rattle.td_slots.specs.Slot.{slot, is_slot, states_in}

-- a checkpoint, where it is valid
abbrev pub where_valid : Bool → Checkpoint → Result Checkpoint SlotsError
where_valid true c = Ok c
where_valid false c = Err (Damaged c.slot)

-- what a payload spells, valid or not
abbrev pub spelled : ℕ → List ℕ → Checkpoint
spelled side bytes = record { slot = side; epoch = (front_in bytes).epoch; last = (front_in bytes).request; states = states_in bytes }

-- what an open slot holds
abbrev pub checkpoint_in : ℕ → List ℕ → ℕ → ℕ → List ℕ → Result Checkpoint SlotsError
checkpoint_in version folds k side bytes = where_valid (is_slot version folds k bytes) (spelled side bytes)

-- the one with the greater epoch, the first on a tie
abbrev pub second_if : Bool → Checkpoint → Checkpoint → Checkpoint
second_if true x y = y
second_if false x y = x

abbrev pub later : Checkpoint → Checkpoint → Checkpoint
later x y = second_if (nat_lt x.epoch y.epoch) x y

-- of two slots that are open, the first that is damaged, or the newest
abbrev pub newest_of : Result Checkpoint SlotsError → Result Checkpoint SlotsError → Result Checkpoint SlotsError
newest_of (Err e) second = Err e
newest_of (Ok x) (Err e) = Err e
newest_of (Ok x) (Ok y) = Ok (later x y)

-- of what both slots hold, where their gates are open
abbrev pub newest_in : ℕ → List ℕ → ℕ → Option (List ℕ) → Option (List ℕ) → Result Checkpoint SlotsError
newest_in version folds k None None = Err NoSlot
newest_in version folds k (Some p) None = checkpoint_in version folds k 0 p
newest_in version folds k None (Some q) = checkpoint_in version folds k 1 q
newest_in version folds k (Some p) (Some q) = newest_of (checkpoint_in version folds k 0 p) (checkpoint_in version folds k 1 q)

-- THE NEWEST CHECKPOINT of an image, for the folds of a plan
abbrev pub newest : ℕ → List ℕ → Slots → List ℕ → Result Checkpoint SlotsError
newest version folds s image = newest_in version folds s.k (opened (slot s 0) image) (opened (slot s 1) image)

-- the checkpoint of an epoch and states in the other slot than that of the newest
abbrev pub beside : Checkpoint → ℕ → ℕ → StateList → Checkpoint
beside c epoch last states = record { slot = 1 - c.slot; epoch = epoch; last = last; states = states }

abbrev pub in_order : ℕ → Checkpoint → Checkpoint → Checkpoint
in_order zero x y = later x y
in_order (suc i) x y = later y x

-- the newest after a write into the other slot: the written one, unless its epoch is not greater and it stands in slot 1
abbrev pub after_write : Checkpoint → ℕ → ℕ → StateList → Checkpoint
after_write c epoch last states = in_order c.slot c (beside c epoch last states)
