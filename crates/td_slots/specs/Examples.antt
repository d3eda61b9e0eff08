-- Worked examples, by computation: slots of at most 3 states, from offset 8,258 on.
use Rattle.std.specs.Prelude.{◌≡◌, ℕ, List, [], ◌∷◌, pos, replicate, Ok, Err, Some, None}
use Rattle.std.proofs.Common.{refl}
use Rattle.td_gate.specs.Fields.{number_at, number_bytes}
use Rattle.td_stamp.specs.States.{StateList}
use Rattle.td_slots.specs.declared.slots.Slots.{Slots}
use Rattle.td_slots.specs.declared.error.SlotsError.TheVariants.{Damaged, NoSlot}
use Rattle.td_slots.specs.Slot.{slot, slot_bytes}
use Rattle.td_slots.specs.Newest.{newest_in}

abbrev pub slots_of_three : Slots
slots_of_three = record { at = 8258; k = 3 }

-- fold 1 keeps a = 5, b = 1 for key 7
abbrev pub one_state : StateList
one_state = ((1, 7), record { a = pos 5; b = pos 1 }) ∷ []

places : (slot slots_of_three 0).at ∷ (slot slots_of_three 1).at ∷ [] ≡ 8258 ∷ 8379 ∷ []
places = refl

-- slot 1 after the cut at epoch 1, where the greatest request number is 5, and in version 1, which has none
abbrev pub written_with : ℕ → List ℕ
written_with last =
    0 ∷ 0 ∷ 0 ∷ 0 ∷ 0 ∷ 0 ∷ 0 ∷ 1 ∷ 0 ∷ 0 ∷ 0 ∷ 0 ∷ 0 ∷ 0 ∷ 0 ∷ last ∷ 0 ∷ 0 ∷ 0 ∷ 1 ∷ 0 ∷ 0 ∷ 0 ∷ 0
    ∷ 0 ∷ 0 ∷ 0 ∷ 0 ∷ 0 ∷ 0 ∷ 0 ∷ 1 ∷ 0 ∷ 0 ∷ 0 ∷ 0 ∷ 0 ∷ 0 ∷ 0 ∷ 7 ∷ 0 ∷ 0 ∷ 0 ∷ 0 ∷ 0 ∷ 0 ∷ 0 ∷ 5 ∷ 0 ∷ 0 ∷ 0 ∷ 0 ∷ 0 ∷ 0 ∷ 0 ∷ 1
    ∷ replicate 64 0

written : slot_bytes 3 1 5 one_state ≡ written_with 5
unfolding number_at number_bytes
written = refl

written_1 : slot_bytes 3 1 0 one_state ≡ written_with 0
unfolding number_at number_bytes
written_1 = refl

-- both open with epoch 4: slot 0; with 4 and 5: slot 1
tie : newest_in 2 (1 ∷ []) 3 (Some (slot_bytes 3 4 0 [])) (Some (slot_bytes 3 4 0 [])) ≡ Ok (record { slot = 0; epoch = 4; last = 0; states = [] })
unfolding number_at number_bytes
tie = refl

second : newest_in 2 (1 ∷ []) 3 (Some (slot_bytes 3 4 8 [])) (Some (slot_bytes 3 5 9 one_state)) ≡ Ok (record { slot = 1; epoch = 5; last = 9; states = one_state })
unfolding number_at number_bytes
second = refl

none : newest_in 2 (1 ∷ []) 3 None None ≡ Err NoSlot
unfolding number_at number_bytes
none = refl

-- a vertex that is no fold
stranger : newest_in 2 (2 ∷ []) 3 None (Some (slot_bytes 3 5 0 one_state)) ≡ Err (Damaged 1)
unfolding number_at number_bytes
stranger = refl

-- a request number, where there are none
numbered : newest_in 1 (1 ∷ []) 3 (Some (slot_bytes 3 5 1 one_state)) None ≡ Err (Damaged 0)
unfolding number_at number_bytes
numbered = refl
