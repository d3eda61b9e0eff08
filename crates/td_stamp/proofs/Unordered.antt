-- Kept states as they lie: their places, in order, are those that stand in order beside.
use Rattle.std.proofs.Common.{◌≡◌, ℕ, ◌||◌, List, [], ◌∷◌, refl, ap, sym, ◌∙◌, Bool, true, false, cond}
use Rattle.std.specs.Prelude.{Some, is_some}
use Rattle.std.specs.List.{list_any}
use Rattle.std.specs.List.Sorted.{IsStrictlySortedBy}
use Rattle.std.specs.Map.{lookup, keys_of}
use Rattle.std.specs.Ordering.{is_eq}
use Rattle.td_stamp.specs.Bag.{set_of, has}
use Rattle.td_stamp.specs.Orders.{state_key_cmp}
use Rattle.td_stamp.specs.ProvedOrders.{state_key_total, state_key_apart, places_tied}
use Rattle.td_stamp.specs.States.{StateList, same_place}
use Rattle.td_stamp.proofs.AnyOrder.{has-set_insert}
use Rattle.td_stamp.proofs.Placed.{is_there}
use Rattle.td_stamp.proofs.SameSets.{same_members}
use Rattle.td_stamp.proofs.Sets.{set_of-IsStrictlySortedBy}

pub has_any : (p : ℕ × ℕ) (places : List (ℕ × ℕ)) → has state_key_cmp p places ≡ list_any (is_there p) places
has_any p [] = refl
has_any p (q ∷ places) = ap (λ b. is_eq (state_key_cmp p q) || b) (has_any p places)

set_has_them : (p : ℕ × ℕ) (places : List (ℕ × ℕ)) → has state_key_cmp p (set_of state_key_cmp places) ≡ has state_key_cmp p places
set_has_them p [] = refl
set_has_them p (q ∷ places) =
    has-set_insert state_key_cmp state_key_total state_key_apart p q (set_of state_key_cmp places) ∙ ap (λ b. is_eq (state_key_cmp p q) || b) (set_has_them p places)

-- a look-up tells whether a place is there
pub told : (p : ℕ × ℕ) (states : StateList) → has state_key_cmp p (keys_of states) ≡ is_some (lookup (is_there p) states)
told p [] = refl
told p (e ∷ states) = by (is_there p e.0) (told p states)
  where
    by : (b : Bool) → has state_key_cmp p (keys_of states) ≡ is_some (lookup (is_there p) states)
        → (b || has state_key_cmp p (keys_of states)) ≡ is_some (cond b (Some e.1) (lookup (is_there p) states))
    by true rest = refl
    by false rest = rest

-- THE PLACES of states that are found as those at some places in order
pub places_of_all : (places : List (ℕ × ℕ)) (states : StateList) → IsStrictlySortedBy state_key_cmp places
    → ((p : ℕ × ℕ) → list_any (is_there p) places ≡ is_some (lookup (same_place p) states)) → set_of state_key_cmp (keys_of states) ≡ places
places_of_all places states sorted those =
    same_members state_key_cmp state_key_total state_key_apart (set_of state_key_cmp (keys_of states)) places
    (set_of-IsStrictlySortedBy state_key_cmp state_key_total state_key_apart (keys_of states)) sorted
    (λ p.
    set_has_them p (keys_of states)
    ∙ (told p states
    ∙ ((λ i. is_some (lookup (λ q. places_tied p q i) states))
    ∙ (sym (those p) ∙ sym (has_any p places)))))
