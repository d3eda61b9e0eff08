-- Kept states rise strictly by vertex and key.
use Rattle.std.proofs.Common.{◌≡◌, ℕ, Bool, true, false, List, [], ◌∷◌, ◌++◌, Some, refl, ap}
use Rattle.std.proofs.lemmas.Bool.{and_parts, and_from, and_left, and_right}
use Rattle.std.specs.declared.cmp.Ordering.{Ordering}
use Rattle.std.specs.declared.cmp.Ordering.TheVariants.{Less, Equal, Greater}
use Rattle.std.specs.Ordering.{is_lt}
use Rattle.std.specs.Map.{keys_of}
use Rattle.std.specs.List.{AllByRecursion}
use Rattle.std.specs.List.Sorted.{IsStrictlySortedBy}
use Rattle.td_stamp.specs.declared.values.State.{State}
use Rattle.td_stamp.specs.Orders.{state_key_cmp}
use Rattle.td_stamp.specs.ProvedOrders.{state_key_total}
use Rattle.td_stamp.specs.States.{StateList, AreStates}
use Rattle.td_gate.specs.Fields.{is_chain}
use Rattle.td_slots.specs.Parsed.{last_place, may_come_after}

abbrev pub ordered : StateList → Bool
ordered states = is_chain (λ x y. is_lt (state_key_cmp x.0 y.0)) states

pub chain_from_states : (states : StateList) → AreStates states → is_chain (λ x y. is_lt (state_key_cmp x.0 y.0)) states ≡ true
unfolding IsStrictlySortedBy
chain_from_states [] sorted = refl
chain_from_states (x ∷ []) sorted = refl
chain_from_states (x ∷ y ∷ ys) sorted = and_from (is_lt (state_key_cmp x.0 y.0)) (is_chain (λ x y. is_lt (state_key_cmp x.0 y.0)) (y ∷ ys)) (ap is_lt sorted.0.0) (chain_from_states (y ∷ ys) sorted.1)

less_from : (o : Ordering) → is_lt o ≡ true → o ≡ Less
less_from Less e = refl
less_from Equal e = absurd cc
less_from Greater e = absurd cc

below_too : (x y : ℕ × ℕ) (keys : List (ℕ × ℕ)) → state_key_cmp x y ≡ Less → AllByRecursion (λ k. state_key_cmp y k ≡ Less) keys → AllByRecursion (λ k. state_key_cmp x k ≡ Less) keys
below_too x y [] lt all = tt
below_too x y (k ∷ keys) lt all = (state_key_total.trans x y k lt all.0, below_too x y keys lt all.1)

below_all : (x : (ℕ × ℕ) × State) (xs : StateList) → ordered (x ∷ xs) ≡ true → AllByRecursion (λ k. state_key_cmp x.0 k ≡ Less) (keys_of xs)
below_all x [] chain = tt
below_all x (y ∷ ys) chain =
    let parts = and_parts (is_lt (state_key_cmp x.0 y.0)) (ordered (y ∷ ys)) chain in
    let lt = less_from (state_key_cmp x.0 y.0) parts.0 in
    (lt, below_too x.0 y.0 (keys_of ys) lt (below_all y ys parts.1))

pub states_from_chain : (states : StateList) → ordered states ≡ true → AreStates states
unfolding IsStrictlySortedBy
states_from_chain [] chain = tt
states_from_chain (x ∷ []) chain = (tt, tt)
states_from_chain (x ∷ y ∷ ys) chain = (below_all x (y ∷ ys) chain, states_from_chain (y ∷ ys) (and_parts (is_lt (state_key_cmp x.0 y.0)) (ordered (y ∷ ys)) chain).1)

pub last_pushed : (xs : StateList) (x : (ℕ × ℕ) × State) → last_place (xs ++ x ∷ []) ≡ Some x.0
last_pushed [] x = refl
last_pushed (y ∷ []) x = refl
last_pushed (y ∷ z ∷ zs) x = last_pushed (z ∷ zs) x

pub ordered_more : (xs : StateList) (x : (ℕ × ℕ) × State) → ordered xs ≡ true → may_come_after (last_place xs) x.0 ≡ true → ordered (xs ++ x ∷ []) ≡ true
ordered_more [] x all one = refl
ordered_more (y ∷ []) x all one = and_from (is_lt (state_key_cmp y.0 x.0)) true one refl
ordered_more (y ∷ z ∷ zs) x all one =
    let parts = and_parts (is_lt (state_key_cmp y.0 z.0)) (ordered (z ∷ zs)) all in
    and_from (is_lt (state_key_cmp y.0 z.0)) (ordered ((z ∷ zs) ++ x ∷ [])) parts.0 (ordered_more (z ∷ zs) x parts.1 one)

pub broken : (xs rest : StateList) (x : (ℕ × ℕ) × State) → may_come_after (last_place xs) x.0 ≡ false → ordered (xs ++ x ∷ rest) ≡ false
broken [] rest x no_ = absurd cc
broken (y ∷ []) rest x no_ = and_left (is_lt (state_key_cmp y.0 x.0)) (ordered (x ∷ rest)) no_
broken (y ∷ z ∷ zs) rest x no_ = and_right (is_lt (state_key_cmp y.0 z.0)) (ordered ((z ∷ zs) ++ x ∷ rest)) (broken (z ∷ zs) rest x no_)

-- of a list that rises, a first part does, and what stands behind it may come after it
pub before : (xs rest : StateList) (x : (ℕ × ℕ) × State) → ordered (xs ++ x ∷ rest) ≡ true → (ordered xs ≡ true) × (may_come_after (last_place xs) x.0 ≡ true)
before [] rest x all = (refl, refl)
before (y ∷ []) rest x all = (refl, (and_parts (is_lt (state_key_cmp y.0 x.0)) (ordered (x ∷ rest)) all).0)
before (y ∷ z ∷ zs) rest x all =
    let parts = and_parts (is_lt (state_key_cmp y.0 z.0)) (ordered ((z ∷ zs) ++ x ∷ rest)) all in
    let more = before (z ∷ zs) rest x parts.1 in
    (and_from (is_lt (state_key_cmp y.0 z.0)) (ordered (z ∷ zs)) parts.0 more.0, more.1)
