-- A slot: where it lies, what is written into it, and what it holds.
use Rattle.std.specs.Prelude.{◌≡◌, ℕ, ◌+◌, ◌*◌, ◌-◌, ◌^◌, ◌<◌, ◌≤◌, FitsSigned, Bool, true, ◌&&◌, ◌||◌, ◌==◌, nat_lt, nat_le, List, ◌++◌, length, drop, flat_map, replicate}
use Rattle.std.specs.Int.{w64}
use Rattle.std.specs.List.{list_all, list_any}
use Rattle.std.specs.Ordering.{is_lt}
use Rattle.td_stamp.specs.declared.values.State.{State}
use Rattle.td_stamp.specs.Orders.{state_key_cmp}
use Rattle.td_stamp.specs.States.{StateList}
use Rattle.td_gate.specs.declared.fields.Front.{Front}
use Rattle.td_gate.specs.Fields.{number_bytes, number_at, signed_at, signed_bytes, front_bytes, front_in, front_len, front_of, is_plain, each_in, is_chain}
use Rattle.td_gate.specs.Reading.{Each}
use Rattle.td_gate.specs.declared.region.Region.{Region}
use Rattle.td_slots.specs.declared.slots.Slots.{Slots}

-- how many bytes a payload has, for so many states
abbrev pub slot_len : ℕ → ℕ
slot_len k = front_len + 32 * k

-- slot 0 or 1
abbrev pub slot : Slots → ℕ → Region
slot s i = record { at = s.at + i * (slot_len s.k + 1); len = slot_len s.k }

-- a kept state, and back
abbrev pub state_bytes : (ℕ × ℕ) × State → List ℕ
state_bytes s = number_bytes 8 s.0.0 ++ (number_bytes 8 s.0.1 ++ (signed_bytes s.1.a ++ signed_bytes s.1.b))

abbrev pub state_in : List ℕ → (ℕ × ℕ) × State
state_in bytes = ((number_at 8 0 bytes, number_at 8 8 bytes), record { a = signed_at 16 bytes; b = signed_at 24 bytes })

-- what is written for the states after an epoch and the greatest request number of the epochs up to it, 0 for none; with zeros up to k states
abbrev pub slot_bytes : ℕ → ℕ → ℕ → StateList → List ℕ
slot_bytes k epoch last states = front_bytes (front_of epoch last (length states)) ++ (flat_map state_bytes states ++ replicate (32 * (k - length states)) 0)

-- the states of a payload
abbrev pub states_in : List ℕ → StateList
states_in bytes = each_in state_in 32 (front_in bytes).count (drop front_len bytes)

-- whether this may be a slot's greatest request number: before version 2 there are none, and the field is 0
abbrev pub is_last : ℕ → ℕ → Bool
is_last version last = nat_le 2 version || (last == 0)

-- whether this may stand before at most k states
abbrev pub is_front : ℕ → ℕ → Front → Bool
is_front version k f = nat_lt f.epoch (2 ^ 63) && (is_last version f.request && is_plain k f)

-- each is kept by one of these folds, and they rise strictly by vertex and key
abbrev pub are_states : List ℕ → StateList → Bool
are_states folds states = list_all (λ s. list_any (λ v. v == s.0.0) folds) states && is_chain (λ x y. is_lt (state_key_cmp x.0 y.0)) states

-- whether a payload is that of the states after an epoch
abbrev pub is_slot : ℕ → List ℕ → ℕ → List ℕ → Bool
is_slot version folds k bytes = is_front version k (front_in bytes) && are_states folds (states_in bytes)

-- a greatest request number that a slot may bear
pub record IsLast (version last : ℕ) : Type 0 where
  pub lawful : is_last version last ≡ true
  pub fits : last < 2 ^ 64

-- a kept state whose fields fit
pub record FitsState (s : (ℕ × ℕ) × State) : Type 0 where
  pub vertex : s.0.0 < 2 ^ 64
  pub key : s.0.1 < 2 ^ 64
  pub a : FitsSigned w64 s.1.a
  pub b : FitsSigned w64 s.1.b

-- states that may stand in a slot for k of them
pub record AreSlotStates (folds : List ℕ) (k : ℕ) (states : StateList) : Type 0 where
  pub few : length states ≤ k
  pub room : k < 2 ^ 32
  pub lawful : are_states folds states ≡ true
  pub fits : Each FitsState states
