-- The request numbers of each version of the format: before version 2 there are none.
use Rattle.std.proofs.Common.{◌≡◌, ℕ, zero, suc, max, Bool, true, false, ◌&&◌, ◌||◌, ◌==◌, ◌^◌, nat_lt, nat_le, List, [], ◌∷◌, take, Option, Some, None, Result, Ok, Err, refl, ap, subst, arith}
use Rattle.std.specs.List.{list_all}
use Rattle.std.proofs.lemmas.Bool.{and_parts, eqb-true}
use Rattle.td_gate.specs.Fields.{front_in, is_plain}
use Rattle.td_slots.specs.declared.error.SlotsError.{SlotsError}
use Rattle.td_slots.specs.declared.slots.Checkpoint.{Checkpoint}
use Rattle.td_slots.specs.Slot.{is_last, is_front, is_slot, are_states, states_in}
use Rattle.td_slots.specs.Newest.{spelled, checkpoint_in, newest_in, newest_of, second_if, where_valid}
use Rattle.td_journal.specs.declared.payload.Submitted.{Submitted}
use Rattle.td_journal.specs.Numbers.{greatest, rise}
use Rattle.td_store.specs.standing.Told.{floor_of}

-- what an answer tells
abbrev taken : Checkpoint → Result Checkpoint SlotsError → Checkpoint
taken d (Ok c) = c
taken d (Err e) = d

abbrev told_as : Checkpoint → Result Checkpoint SlotsError
told_as c = Ok c

module _ (version : ℕ) (folds : List ℕ) (k : ℕ) where
  -- what a slot tells has a number that it may have
  valid_last : (side : ℕ) (p : List ℕ) (b : Bool) (c : Checkpoint) → is_slot version folds k p ≡ b → where_valid b (spelled side p) ≡ Ok c → is_last version c.last ≡ true
  valid_last side p true c is told =
      let front = and_parts (is_front version k (front_in p)) (are_states folds (states_in p)) is in
      let rest = and_parts (nat_lt (front_in p).epoch (2 ^ 63)) (is_last version (front_in p).request && is_plain k (front_in p)) front.0 in
      let last = and_parts (is_last version (front_in p).request) (is_plain k (front_in p)) rest.1 in
      let same : spelled side p ≡ c = ap (taken c) told in
      subst (λ (x : Checkpoint). is_last version x.last ≡ true) same last.0
  valid_last side p false c is told = absurd cc

  held_last : (side : ℕ) (p : List ℕ) (c : Checkpoint) → checkpoint_in version folds k side p ≡ Ok c → is_last version c.last ≡ true
  held_last side p c told = valid_last side p (is_slot version folds k p) c refl told

  both_last : (x y : Result Checkpoint SlotsError) (c : Checkpoint)
      → ((d : Checkpoint) → x ≡ Ok d → is_last version d.last ≡ true) → ((d : Checkpoint) → y ≡ Ok d → is_last version d.last ≡ true)
      → newest_of x y ≡ Ok c → is_last version c.last ≡ true
  both_last (Err e) y c one other told = absurd cc
  both_last (Ok x) (Err e) c one other told = absurd cc
  both_last (Ok x) (Ok y) c one other told = chosen (nat_lt x.epoch y.epoch) told
    where
      chosen : (b : Bool) → told_as (second_if b x y) ≡ told_as c → is_last version c.last ≡ true
      chosen true is = let same : y ≡ c = ap (taken c) is in subst (λ (z : Checkpoint). is_last version z.last ≡ true) same (other y refl)
      chosen false is = let same : x ≡ c = ap (taken c) is in subst (λ (z : Checkpoint). is_last version z.last ≡ true) same (one x refl)

  pub newest_last : (p q : Option (List ℕ)) (c : Checkpoint) → newest_in version folds k p q ≡ Ok c → is_last version c.last ≡ true
  newest_last None None c told = absurd cc
  newest_last (Some p) None c told = held_last 0 p c told
  newest_last None (Some q) c told = held_last 1 q c told
  newest_last (Some p) (Some q) c told = both_last (checkpoint_in version folds k 0 p) (checkpoint_in version folds k 1 q) c (held_last 0 p) (held_last 1 q) told

-- where there are no numbers, the greatest is 0
none_greatest : (k q : ℕ) (w : List Submitted) → q ≡ 0 → list_all (λ s. s.request == 0) w ≡ true → greatest q (take k w) ≡ 0
none_greatest zero q w is all = is
none_greatest (suc k) q [] is all = is
none_greatest (suc k) q (s ∷ w) is all =
    let parts = and_parts (s.request == 0) (list_all (λ (x : Submitted). x.request == 0) w) all in
    let zero_is : s.request ≡ 0 = eqb-true s.request 0 parts.0 in
    let most : max q s.request ≡ 0 = omega (arith, is, zero_is) in
    none_greatest k (max q s.request) w most parts.1

-- a cut's number is one that a slot may bear
pub cut_last : (version last k : ℕ) (w : List Submitted) → is_last version last ≡ true → rise (floor_of version last) w ≡ true → is_last version (greatest last (take k w)) ≡ true
cut_last version last k w = cases (nat_le 2 version)
  where
    cases : (b : Bool) → (b || (last == 0)) ≡ true → rise (elim b [ true ↦ Some last | false ↦ None ]) w ≡ true → (b || (greatest last (take k w) == 0)) ≡ true
    cases true is rises = refl
    cases false is rises = ap (λ (n : ℕ). n == 0) (none_greatest k last w (eqb-true last 0 is) rises)
