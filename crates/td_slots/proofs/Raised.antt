-- What slots tell before version 2 they tell in it.
use Rattle.std.proofs.Common.{◌≡◌, ℕ, ◌&&◌, ◌^◌, Bool, true, false, nat_lt, List, Option, Some, None, Result, Ok, Err, refl, ap, ◌∙◌}
use Rattle.std.proofs.lemmas.Bool.{and_parts, and_from}
use Rattle.td_gate.specs.Fields.{front_in, is_plain}
use Rattle.td_slots.specs.declared.error.SlotsError.{SlotsError}
use Rattle.td_slots.specs.declared.slots.Checkpoint.{Checkpoint}
use Rattle.td_slots.specs.Slot.{is_last, is_front, is_slot, are_states, states_in}
use Rattle.td_slots.specs.Newest.{spelled, checkpoint_in, newest_in, newest_of, where_valid}

module _ (version : ℕ) (folds : List ℕ) (k : ℕ) where
  valid_raised : (p : List ℕ) → is_slot version folds k p ≡ true → is_slot 2 folds k p ≡ true
  valid_raised p is =
      let f = front_in p in
      let both = and_parts (is_front version k f) (are_states folds (states_in p)) is in
      let front = and_parts (nat_lt f.epoch (2 ^ 63)) (is_last version f.request && is_plain k f) both.0 in
      let last = and_parts (is_last version f.request) (is_plain k f) front.1 in
      and_from (is_front 2 k f) (are_states folds (states_in p)) (and_from (nat_lt f.epoch (2 ^ 63)) (is_last 2 f.request && is_plain k f) front.0 last.1) both.1

  held_raised : (side : ℕ) (p : List ℕ) (c : Checkpoint) → checkpoint_in version folds k side p ≡ Ok c → checkpoint_in 2 folds k side p ≡ Ok c
  held_raised side p c told = by (is_slot version folds k p) refl told
    where
      by : (b : Bool) → is_slot version folds k p ≡ b → where_valid b (spelled side p) ≡ Ok c → checkpoint_in 2 folds k side p ≡ Ok c
      by true is told = ap (λ (b : Bool). where_valid b (spelled side p)) (valid_raised p is) ∙ told
      by false is told = absurd cc

  both_raised : (x y u v : Result Checkpoint SlotsError) (c : Checkpoint) → ((d : Checkpoint) → x ≡ Ok d → u ≡ Ok d) → ((d : Checkpoint) → y ≡ Ok d → v ≡ Ok d)
      → newest_of x y ≡ Ok c → newest_of u v ≡ Ok c
  both_raised (Err e) y u v c one other told = absurd cc
  both_raised (Ok x) (Err e) u v c one other told = absurd cc
  both_raised (Ok x) (Ok y) u v c one other told = (λ i. newest_of (one x refl i) (other y refl i)) ∙ told

  pub newest_raised : (p q : Option (List ℕ)) (c : Checkpoint) → newest_in version folds k p q ≡ Ok c → newest_in 2 folds k p q ≡ Ok c
  newest_raised None None c told = absurd cc
  newest_raised (Some p) None c told = held_raised 0 p c told
  newest_raised None (Some q) c told = held_raised 1 q c told
  newest_raised (Some p) (Some q) c told =
      both_raised (checkpoint_in version folds k 0 p) (checkpoint_in version folds k 1 q) (checkpoint_in 2 folds k 0 p) (checkpoint_in 2 folds k 1 q) c (held_raised 0 p) (held_raised 1 q) told
