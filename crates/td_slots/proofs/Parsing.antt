-- How a payload is read, state by state.
use Rattle.std.proofs.Common.{◌≡◌, ℕ, suc, ◌+◌, ◌-◌, ◌*◌, ◌<◌, Bool, true, false, ◌==◌, List, [], ◌∷◌, ◌++◌, drop, Option, Some, sym, ap, ◌∙◌, arith, append-nil, refl}
use Rattle.std.specs.List.{list_all, list_any}
use Rattle.std.proofs.lemmas.List.{append_assoc, drop-drop}
use Rattle.std.proofs.lemmas.List.Folds.{list_all-append}
use Rattle.std.proofs.lemmas.Bool.{and_from, and_parts, and_left, and_right}
use Rattle.td_stamp.specs.declared.values.State.{State}
use Rattle.td_stamp.specs.States.{StateList}
use Rattle.td_gate.specs.Fields.{front_in, each_in}
use Rattle.td_slots.specs.Slot.{state_in, states_in, are_states}
use Rattle.td_slots.specs.Parsed.{last_place, may_come_after}
use Rattle.td_slots.proofs.Order.{ordered, ordered_more, last_pushed, broken, before}

abbrev pub names : List ℕ → (ℕ × ℕ) × State → Bool
names folds e = list_any (λ v. v == e.0.0) folds

-- what is left from the i-th state on
abbrev pub left : ℕ → ℕ → List ℕ → StateList
left count i bytes = each_in state_in 32 (count - i) (drop (24 + 32 * i) bytes)

pub left_step : (count i : ℕ) (bytes : List ℕ) → i < count → left count i bytes ≡ state_in (drop (24 + 32 * i) bytes) ∷ left count (i + 1) bytes
left_step count i bytes lt =
    let more : count - i ≡ suc (count - (i + 1)) = omega (arith, lt) in
    let place : (24 + 32 * i) + 32 ≡ 24 + 32 * (i + 1) = omega arith in
    ap (λ (n : ℕ). each_in state_in 32 n (drop (24 + 32 * i) bytes)) more
    ∙ ap (λ (b : List ℕ). state_in (drop (24 + 32 * i) bytes) ∷ each_in state_in 32 (count - (i + 1)) b) (drop-drop 32 (24 + 32 * i) bytes ∙ ap (λ (n : ℕ). drop n bytes) place)

pub left_all : (count : ℕ) (bytes : List ℕ) → left count count bytes ≡ []
left_all count bytes = let none : count - count ≡ 0 = omega arith in ap (λ (n : ℕ). each_in state_in 32 n (drop (24 + 32 * count) bytes)) none

pub left_start : (count : ℕ) (bytes : List ℕ) → count ≡ (front_in bytes).count → states_in bytes ≡ left count 0 bytes
left_start count bytes is =
    let all : count ≡ count - 0 = omega arith in
    let place : 24 ≡ 24 + 32 * 0 = omega arith in
    ap (λ (n : ℕ). each_in state_in 32 n (drop 24 bytes)) (sym is ∙ all) ∙ ap (λ (n : ℕ). each_in state_in 32 (count - 0) (drop n bytes)) place

-- the i-th state, and the rest
pub at_place : (count i : ℕ) (bytes : List ℕ) (es : StateList) → i < count → states_in bytes ≡ es ++ left count i bytes
    → states_in bytes ≡ es ++ state_in (drop (24 + 32 * i) bytes) ∷ left count (i + 1) bytes
at_place count i bytes es lt read = read ∙ ap (λ (l : StateList). es ++ l) (left_step count i bytes lt)

-- one state more
pub read_more : (count i : ℕ) (bytes : List ℕ) (es : StateList) → i < count → states_in bytes ≡ es ++ left count i bytes
    → states_in bytes ≡ (es ++ state_in (drop (24 + 32 * i) bytes) ∷ []) ++ left count (i + 1) bytes
read_more count i bytes es lt read =
    at_place count i bytes es lt read ∙ sym (append_assoc es (state_in (drop (24 + 32 * i) bytes) ∷ []) (left count (i + 1) bytes))

-- The first states were looked at: they are kept by folds, rise, and end with the last one.
pub record Looked (folds : List ℕ) (count i : ℕ) (bytes : List ℕ) (last : Option (ℕ × ℕ)) : Type 0 where
  pub first : StateList
  pub read : states_in bytes ≡ first ++ left count i bytes
  pub named : list_all (names folds) first ≡ true
  pub rises : ordered first ≡ true
  pub ends : last ≡ last_place first

module _ (folds : List ℕ) (count : ℕ) (bytes : List ℕ) where
  pub none_looked : count ≡ (front_in bytes).count → (last : Option (ℕ × ℕ)) → last ≡ last_place [] → Looked folds count 0 bytes last
  none_looked is last none = record { first = []; read = left_start count bytes is; named = refl; rises = refl; ends = none }

  module _ (i : ℕ) (last : Option (ℕ × ℕ)) (looked : Looked folds count i bytes last) where
    abbrev next : (ℕ × ℕ) × State
    next = state_in (drop (24 + 32 * i) bytes)

    whole : i < count → states_in bytes ≡ looked.first ++ next ∷ left count (i + 1) bytes
    whole lt = at_place count i bytes looked.first lt looked.read

    -- one that names no fold, or that comes too late
    pub not_named : i < count → names folds next ≡ false → are_states folds (states_in bytes) ≡ false
    not_named lt no_ =
        let es = looked.first in
        let rest = left count (i + 1) bytes in
        let none : list_all (names folds) (es ++ next ∷ rest) ≡ false =
        list_all-append (names folds) es (next ∷ rest) ∙ and_right (list_all (names folds) es) (list_all (names folds) (next ∷ rest)) (and_left (names folds next) (list_all (names folds) rest) no_) in
        ap (are_states folds) (whole lt) ∙ and_left (list_all (names folds) (es ++ next ∷ rest)) (ordered (es ++ next ∷ rest)) none

    pub too_late : i < count → may_come_after last next.0 ≡ false → are_states folds (states_in bytes) ≡ false
    too_late lt no_ =
        let es = looked.first in
        let rest = left count (i + 1) bytes in
        ap (are_states folds) (whole lt)
        ∙ and_right (list_all (names folds) (es ++ next ∷ rest)) (ordered (es ++ next ∷ rest)) (broken es rest next (ap (λ (l : Option (ℕ × ℕ)). may_come_after l next.0) (sym looked.ends) ∙ no_))

    pub look_more : i < count → names folds next ≡ true → may_come_after last next.0 ≡ true → (place : Option (ℕ × ℕ)) → place ≡ Some next.0 → Looked folds count (i + 1) bytes place
    look_more lt named may place is =
        let es = looked.first in
        record {
          first = es ++ next ∷ [];
          read = read_more count i bytes es lt looked.read;
          named = list_all-append (names folds) es (next ∷ []) ∙ and_from (list_all (names folds) es) (list_all (names folds) (next ∷ [])) looked.named (and_from (names folds next) true named refl);
          rises = ordered_more es next looked.rises (ap (λ (l : Option (ℕ × ℕ)). may_come_after l next.0) (sym looked.ends) ∙ may);
          ends = is ∙ sym (last_pushed es next);
        }

  pub all_looked : (i : ℕ) (last : Option (ℕ × ℕ)) → i ≡ count → Looked folds count i bytes last → are_states folds (states_in bytes) ≡ true
  all_looked i last done looked =
      let all : states_in bytes ≡ looked.first =
      looked.read ∙ ap (λ (n : ℕ). looked.first ++ left count n bytes) done ∙ ap (λ (l : StateList). looked.first ++ l) (left_all count bytes) ∙ append-nil looked.first in
      ap (are_states folds) all ∙ and_from (list_all (names folds) looked.first) (ordered looked.first) looked.named looked.rises

  -- the states of a valid payload are taken up one by one
  module _ (valid : are_states folds (states_in bytes) ≡ true) (i : ℕ) (es : StateList) (lt : i < count) (read : states_in bytes ≡ es ++ left count i bytes) where
    abbrev this : (ℕ × ℕ) × State
    this = state_in (drop (24 + 32 * i) bytes)

    split : (list_all (names folds) (es ++ this ∷ left count (i + 1) bytes) ≡ true) × (ordered (es ++ this ∷ left count (i + 1) bytes) ≡ true)
    split = and_parts (list_all (names folds) (es ++ this ∷ left count (i + 1) bytes)) (ordered (es ++ this ∷ left count (i + 1) bytes))
        (ap (are_states folds) (sym (at_place count i bytes es lt read)) ∙ valid)

    pub is_named : names folds this ≡ true
    is_named =
        let behind = and_parts (list_all (names folds) es) (list_all (names folds) (this ∷ left count (i + 1) bytes)) (sym (list_all-append (names folds) es (this ∷ left count (i + 1) bytes)) ∙ split.0) in
        (and_parts (names folds this) (list_all (names folds) (left count (i + 1) bytes)) behind.1).0

    -- with those before it, it is in order
    pub rises : ordered (es ++ this ∷ []) ≡ true
    rises = let may = before es (left count (i + 1) bytes) this split.1 in ordered_more es this may.0 may.1

    pub taken : (new : StateList) → new ≡ es ++ this ∷ [] → states_in bytes ≡ new ++ left count (i + 1) bytes
    taken new is = read_more count i bytes es lt read ∙ ap (λ (l : StateList). l ++ left count (i + 1) bytes) (sym is)

  pub all_taken : (i : ℕ) (es : StateList) → i ≡ count → states_in bytes ≡ es ++ left count i bytes → es ≡ states_in bytes
  all_taken i es done read =
      sym (read ∙ ap (λ (n : ℕ). es ++ left count n bytes) done ∙ ap (λ (l : StateList). es ++ l) (left_all count bytes) ∙ append-nil es)
