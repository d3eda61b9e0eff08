-- What is written into a slot is read back.
use Rattle.std.proofs.Common.{◌≡◌, ℕ, ◌+◌, ◌-◌, ◌*◌, ◌<◌, ◌≤◌, ◌^◌, Bool, true, ◌&&◌, nat_lt, List, [], ◌++◌, length, drop, replicate, refl, sym, ap, ◌∙◌, arith, Ok}
use Rattle.std.specs.Prelude.{flat_map}
use Rattle.std.specs.Int.{w64, cast_unsigned}
use Rattle.std.proofs.lemmas.Bool.{and_from, lt-ltb, le-leb}
use Rattle.std.proofs.lemmas.List.{append_assoc, length-append, length-replicate}
use Rattle.td_stamp.specs.declared.values.State.{State}
use Rattle.td_stamp.specs.States.{StateList}
use Rattle.td_gate.specs.declared.fields.Front.{Front}
use Rattle.td_gate.specs.Fields.{number_bytes, number_at, signed_at, signed_bytes, front_bytes, front_in, front_len, front_of, is_plain, each_in}
use Rattle.td_gate.specs.Reading.{number_behind, signed_behind, length_bytes, front_back, front_past, front_size, each_back, each_size}
use Rattle.td_slots.specs.Slot.{slot_len, state_bytes, state_in, slot_bytes, states_in, is_last, is_front, are_states, is_slot, IsLast, FitsState, AreSlotStates}
use Rattle.td_slots.specs.Newest.{where_valid, spelled, checkpoint_in}

four_parts : (a b c d rest : List ℕ) → (a ++ (b ++ (c ++ d))) ++ rest ≡ a ++ (b ++ (c ++ (d ++ rest)))
four_parts a b c d rest = simp append_assoc

state_numbers : (s : (ℕ × ℕ) × State) (a b c d rest : List ℕ) → a ≡ number_bytes 8 s.0.0 → b ≡ number_bytes 8 s.0.1 → c ≡ signed_bytes s.1.a → d ≡ signed_bytes s.1.b → FitsState s
    → (number_at 8 0 ((a ++ (b ++ (c ++ d))) ++ rest) ≡ s.0.0) × (number_at 8 8 ((a ++ (b ++ (c ++ d))) ++ rest) ≡ s.0.1)
    × (signed_at 16 ((a ++ (b ++ (c ++ d))) ++ rest) ≡ s.1.a) × (signed_at 24 ((a ++ (b ++ (c ++ d))) ++ rest) ≡ s.1.b)
state_numbers s a b c d rest ea eb ec ed fits =
    let la : length a ≡ 8 = ap length ea ∙ length_bytes 8 s.0.0 in
    let lb : length b ≡ 8 = ap length eb ∙ length_bytes 8 s.0.1 in
    let lc : length c ≡ 8 = ap length ec ∙ length_bytes 8 (cast_unsigned w64 s.1.a) in
    let lab : length (a ++ b) ≡ 16 = length-append a b ∙ omega arith in
    let labc : length ((a ++ b) ++ c) ≡ 24 = length-append (a ++ b) c ∙ omega arith in
    let whole = four_parts a b c d rest in (
      ap (number_at 8 0) (whole ∙ ap (λ (l : List ℕ). l ++ (b ++ (c ++ (d ++ rest)))) ea) ∙ number_behind 8 0 s.0.0 [] (b ++ (c ++ (d ++ rest))) refl fits.vertex,
      ap (number_at 8 8) (whole ∙ ap (λ (l : List ℕ). a ++ (l ++ (c ++ (d ++ rest)))) eb) ∙ number_behind 8 8 s.0.1 a (c ++ (d ++ rest)) la fits.key,
      ap (signed_at 16) (whole ∙ sym (append_assoc a b (c ++ (d ++ rest))) ∙ ap (λ (l : List ℕ). (a ++ b) ++ (l ++ (d ++ rest))) ec) ∙ signed_behind 16 s.1.a (a ++ b) (d ++ rest) lab fits.a,
      ap (signed_at 24) (whole ∙ sym (append_assoc a b (c ++ (d ++ rest))) ∙ sym (append_assoc (a ++ b) c (d ++ rest)) ∙ ap (λ (l : List ℕ). ((a ++ b) ++ c) ++ (l ++ rest)) ed) ∙ signed_behind 24 s.1.b ((a ++ b) ++ c) rest labc fits.b,
    )

state_back : (s : (ℕ × ℕ) × State) (rest : List ℕ) → FitsState s → state_in (state_bytes s ++ rest) ≡ s
state_back s rest fits =
    let each = state_numbers s (number_bytes 8 s.0.0) (number_bytes 8 s.0.1) (signed_bytes s.1.a) (signed_bytes s.1.b) rest refl refl refl refl fits in
    λ i. ((each.0 i, each.1 i), record { a = each.2 i; b = each.3 i })

pub state_size : (s : (ℕ × ℕ) × State) → length (state_bytes s) ≡ 32
state_size s = sizes (number_bytes 8 s.0.0) (number_bytes 8 s.0.1) (signed_bytes s.1.a) (signed_bytes s.1.b) (length_bytes 8 s.0.0) (length_bytes 8 s.0.1) (length_bytes 8 (cast_unsigned w64 s.1.a)) (length_bytes 8 (cast_unsigned w64 s.1.b))
  where
    sizes : (a b c d : List ℕ) → length a ≡ 8 → length b ≡ 8 → length c ≡ 8 → length d ≡ 8 → length (a ++ (b ++ (c ++ d))) ≡ 32
    sizes a b c d ea eb ec ed = omega (arith, length-append a (b ++ (c ++ d)), length-append b (c ++ d), length-append c d)

abbrev filler : ℕ → StateList → List ℕ
filler k states = flat_map state_bytes states ++ replicate (32 * (k - length states)) 0

pub slot_size : (k e q : ℕ) (states : StateList) → length states ≤ k → length (slot_bytes k e q states) ≡ slot_len k
slot_size k e q states few =
    sizes (front_bytes (front_of e q (length states))) (flat_map state_bytes states) (replicate (32 * (k - length states)) 0)
    (front_size (front_of e q (length states))) (each_size state_bytes 32 state_size states) (length-replicate (32 * (k - length states)) 0)
  where
    sizes : (a b c : List ℕ) → length a ≡ 24 → length b ≡ 32 * length states → length c ≡ 32 * (k - length states) → length (a ++ (b ++ c)) ≡ 24 + 32 * k
    sizes a b c ea eb ec = omega (arith, length-append a (b ++ c), length-append b c, few)

module _ (version : ℕ) (folds : List ℕ) (k e q : ℕ) (states : StateList) (small : e < 2 ^ 63) (number : IsLast version q) (ok : AreSlotStates folds k states) where
  front : front_in (slot_bytes k e q states) ≡ front_of e q (length states)
  front = front_back (front_of e q (length states)) (filler k states)
      (record { epoch = omega (arith, small); request = number.fits; count = omega (arith, ok.few, ok.room); zeros = omega arith })

  are : states_in (slot_bytes k e q states) ≡ states
  are = ap (λ (f : Front). each_in state_in 32 f.count (drop front_len (slot_bytes k e q states))) front
      ∙ ap (each_in state_in 32 (length states)) (front_past (front_of e q (length states)) (filler k states))
      ∙ each_back state_bytes state_in 32 FitsState state_back state_size states (replicate (32 * (k - length states)) 0) ok.fits

  front_valid : is_front version k (front_of e q (length states)) ≡ true
  front_valid =
      and_from (nat_lt e (2 ^ 63)) (is_last version q && is_plain k (front_of e q (length states))) (lt-ltb e (2 ^ 63) small)
      (and_from (is_last version q) (is_plain k (front_of e q (length states))) number.lawful (le-leb (length states) k ok.few))

  valid : is_slot version folds k (slot_bytes k e q states) ≡ true
  valid = and_from (is_front version k (front_in (slot_bytes k e q states))) (are_states folds (states_in (slot_bytes k e q states)))
      (ap (is_front version k) front ∙ front_valid) (ap (are_states folds) are ∙ ok.lawful)

  pub slot_found : (side : ℕ) → checkpoint_in version folds k side (slot_bytes k e q states) ≡ Ok (record { slot = side; epoch = e; last = q; states = states })
  slot_found side =
      ap (λ (t : Bool). where_valid t (spelled side (slot_bytes k e q states))) valid
      ∙ (λ i. Ok (record { slot = side; epoch = (front i).epoch; last = (front i).request; states = are i }))
