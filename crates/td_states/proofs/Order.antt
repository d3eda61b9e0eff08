-- A state that is put after the last one.
use Rattle.std.proofs.Common.{◌≡◌, ℕ, Bool, true, [], ◌∷◌, ◌++◌, Some, is_none, refl, ap, ◌∙◌}
use Rattle.std.proofs.lemmas.Bool.{and_parts, and_from}
use Rattle.std.specs.declared.cmp.Ordering.{Ordering}
use Rattle.std.specs.declared.cmp.Ordering.TheVariants.{Less, Equal, Greater}
use Rattle.std.specs.Ordering.{is_lt, ordering_reverse, match_ordering}
use Rattle.std.specs.BTreeMap.{insert_entry}
use Rattle.td_stamp.specs.declared.values.State.{State}
use Rattle.td_stamp.specs.Orders.{state_key_cmp}
use Rattle.td_stamp.specs.ProvedOrders.{state_key_total}
use Rattle.td_stamp.specs.States.{StateList}
use Rattle.td_gate.specs.Fields.{is_chain}
use Rattle.td_slots.specs.Parsed.{last_place, may_come_after}

abbrev pub ordered : StateList → Bool
ordered states = is_chain (λ x y. is_lt (state_key_cmp x.0 y.0)) states

less_from : (o : Ordering) → is_lt o ≡ true → o ≡ Less
less_from Less e = refl
less_from Equal e = absurd cc
less_from Greater e = absurd cc

-- a state that is put behind is the last
pub last_pushed : (xs : StateList) (x : (ℕ × ℕ) × State) → last_place (xs ++ x ∷ []) ≡ Some x.0
last_pushed [] x = refl
last_pushed (y ∷ []) x = refl
last_pushed (y ∷ z ∷ zs) x = last_pushed (z ∷ zs) x

-- and they rise on
pub ordered_more : (xs : StateList) (x : (ℕ × ℕ) × State) → ordered xs ≡ true → may_come_after (last_place xs) x.0 ≡ true → ordered (xs ++ x ∷ []) ≡ true
ordered_more [] x all one = refl
ordered_more (y ∷ []) x all one = and_from (is_lt (state_key_cmp y.0 x.0)) true one refl
ordered_more (y ∷ z ∷ zs) x all one =
    let parts = and_parts (is_lt (state_key_cmp y.0 z.0)) (ordered (z ∷ zs)) all in
    and_from (is_lt (state_key_cmp y.0 z.0)) (ordered ((z ∷ zs) ++ x ∷ [])) parts.0 (ordered_more (z ∷ zs) x parts.1 one)

-- without a last one there is none
some_last : (x : (ℕ × ℕ) × State) (xs : StateList) → is_none (last_place (x ∷ xs)) ≡ true → ⊥
some_last x [] h = cc
some_last x (y ∷ ys) h = some_last y ys h

pub no_last : (xs : StateList) → is_none (last_place xs) ≡ true → xs ≡ []
no_last [] h = refl
no_last (x ∷ xs) h = absurd (some_last x xs h)

-- of a list that rises, what stands behind a first part may come after it
pub before : (xs rest : StateList) (x : (ℕ × ℕ) × State) → ordered (xs ++ x ∷ rest) ≡ true → may_come_after (last_place xs) x.0 ≡ true
before [] rest x all = refl
before (y ∷ []) rest x all = (and_parts (is_lt (state_key_cmp y.0 x.0)) (ordered (x ∷ rest)) all).0
before (y ∷ z ∷ zs) rest x all = before (z ∷ zs) rest x (and_parts (is_lt (state_key_cmp y.0 z.0)) (ordered ((z ∷ zs) ++ x ∷ rest)) all).1
