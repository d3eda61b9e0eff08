-- What the reader of slots answers.
use Rattle.std.specs.Prelude.{◌≡◌, ℕ, ◌≤◌, Bool, true, false, nat_lt, List, [], ◌∷◌, length, Option, Some, None, Vec, Result, Ok, Err}
use Rattle.std.specs.declared.alloc.Global.{Global}
use Rattle.std.specs.Ordering.{is_lt}
use Rattle.td_stamp.specs.Orders.{state_key_cmp}
use Rattle.td_stamp.specs.States.{StateList}
use Rattle.td_gate.specs.Fields.{front_in}
use Rattle.td_slots.specs.declared.slots.Checkpoint.{Checkpoint}
use Rattle.td_slots.specs.declared.error.SlotsError.{SlotsError}
use Rattle.td_slots.specs.declared.error.SlotsError.TheVariants.{Damaged}
use Rattle.td_slots.specs.Slot.{is_slot}

-- where the last state is kept
abbrev pub last_place : StateList → Option (ℕ × ℕ)
last_place [] = None
last_place (x ∷ []) = Some x.0
last_place (x ∷ y ∷ ys) = last_place (y ∷ ys)

-- a state may come after one that is kept there
abbrev pub may_come_after : Option (ℕ × ℕ) → ℕ × ℕ → Bool
may_come_after None p = true
may_come_after (Some q) p = is_lt (state_key_cmp q p)

-- a payload that was read is valid
abbrev pub IsValid : ℕ → List ℕ → ℕ → Option (Vec ℕ Global) → Type 0
IsValid version folds k None = Unit {0}
IsValid version folds k (Some v) = is_slot version folds k v.items ≡ true

-- what a slot holds is no checkpoint, which is refused so
abbrev pub IsDamaged : ℕ → List ℕ → ℕ → ℕ → Option (List ℕ) → SlotsError → Type 0
IsDamaged version folds k side None e = ⊥
IsDamaged version folds k side (Some bytes) e = (is_slot version folds k bytes ≡ false) × (e ≡ Damaged side)

-- a payload that was read has at least so many bytes
abbrev pub AtLeast : ℕ → Option (Vec ℕ Global) → Type 0
AtLeast n None = Unit {0}
AtLeast n (Some v) = n ≤ length v.items

-- the payload with the greater epoch, the first on a tie, and its slot
abbrev pub second_payload_if : Bool → List ℕ → List ℕ → ℕ × List ℕ
second_payload_if true p q = (1, q)
second_payload_if false p q = (0, p)

abbrev pub newer_of : Option (List ℕ) → Option (List ℕ) → Option (ℕ × List ℕ)
newer_of None None = None
newer_of (Some p) None = Some (0, p)
newer_of None (Some q) = Some (1, q)
newer_of (Some p) (Some q) = Some (second_payload_if (nat_lt (front_in p).epoch (front_in q).epoch) p q)

-- the bytes of a payload that was chosen
abbrev pub chosen_of : Option (ℕ × Vec ℕ Global) → Option (ℕ × List ℕ)
chosen_of None = None
chosen_of (Some c) = Some (c.0, c.1.items)

-- the two answers
abbrev pub Told : Checkpoint → Result Checkpoint SlotsError
Told c = Ok c

abbrev pub Refused : SlotsError → Result Checkpoint SlotsError
Refused e = Err e
