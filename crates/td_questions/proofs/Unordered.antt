-- The first of states are the same, in whatever order the states come.
use Rattle.std.proofs.Common.{◌≡◌, ℕ, ◌==◌, ◌||◌, true, false, cond, Bool, List, [], ◌∷◌, map, Option, Some, None, refl, ap, sym, ◌∙◌}
use Rattle.std.specs.List.{AllByRecursion, filter_map, cons_option}
use Rattle.std.specs.List.Sorted.{IsStrictlySortedBy}
use Rattle.std.specs.Map.{keys_of}
use Rattle.std.specs.declared.cmp.Ordering.{Ordering}
use Rattle.std.specs.declared.cmp.Ordering.TheVariants.{Less, Equal, Greater}
use Rattle.std.specs.Ordering.{is_eq, ordering_reverse}
use Rattle.std.specs.Cmp.{IsTotalOrder}
use Rattle.std.specs.FinMap.{IsAntisymmetric}
use Rattle.std.proofs.lemmas.Cmp.{tied_itself}
use Rattle.td_stamp.specs.declared.values.State.{State}
use Rattle.td_stamp.specs.Bag.{set_insert, set_of, has}
use Rattle.td_stamp.specs.BagLaws.{SetLaws}
use Rattle.td_stamp.specs.Orders.{state_key_cmp}
use Rattle.td_stamp.specs.ProvedOrders.{state_key_total, state_key_apart}
use Rattle.td_stamp.specs.States.{StateList, state_of, AreStates}
use Rattle.td_questions.specs.declared.ranks.Ranked.{Ranked}
use Rattle.td_questions.specs.declared.ranks.Order.{Order}
use Rattle.td_questions.specs.Asked.{at_most, kept_by}
use Rattle.td_questions.specs.Ranks.{ranked_cmp}
use Rattle.td_questions.specs.Weighed.{ranked}
use Rattle.td_questions.proofs.Firsts.{all_put}
use Rattle.td_questions.proofs.Weights.{ranked_total, to_put, in_all}

-- ---- a set of what some places give is that of what their set gives

module _ {K X : Type 0} (key_cmp : K → K → Ordering) (apart : IsAntisymmetric key_cmp) (cmp : X → X → Ordering) (total : IsTotalOrder cmp) (laws : SetLaws cmp) (h : K → Option X) where
  abbrev put : Option X → List X → List X
  put None set = set
  put (Some x) set = set_insert cmp x set

  abbrev pub given : List K → List X
  given keys = set_of cmp (filter_map h keys)

  one_given : (o : Option X) (xs : List X) → set_of cmp (cons_option o xs) ≡ put o (set_of cmp xs)
  one_given None xs = refl
  one_given (Some x) xs = refl

  put_swap : (o p : Option X) (set : List X) → put o (put p set) ≡ put p (put o set)
  put_swap None p set = refl
  put_swap (Some x) None set = refl
  put_swap (Some x) (Some y) set = laws.swaps x y set

  put_again : (o : Option X) (xs : List X) → put o (put o (set_of cmp xs)) ≡ put o (set_of cmp xs)
  put_again None xs = refl
  put_again (Some x) xs = laws.there x (set_of cmp (x ∷ xs)) (laws.found x (x ∷ xs) ∙ ap (λ r. is_eq r || has cmp x xs) (tied_itself total x))

  given_inserted : (k : K) (keys : List K) → given (set_insert key_cmp k keys) ≡ put (h k) (given keys)
  given_inserted k [] = one_given (h k) []
  given_inserted k (j ∷ keys) = by (key_cmp k j) refl (given_inserted k keys)
    where
      by : (r : Ordering) → key_cmp k j ≡ r → given (set_insert key_cmp k keys) ≡ put (h k) (given keys) → given (set_insert key_cmp k (j ∷ keys)) ≡ put (h k) (given (j ∷ keys))
      by Less e rest = rw (e, set_insert) (one_given (h k) (filter_map h (j ∷ keys)))
      by Equal e rest =
          rw (e, set_insert)
          (one_given (h j) (filter_map h keys)
          ∙ (sym (put_again (h j) (filter_map h keys))
          ∙ (ap (λ l. put (h l) (put (h j) (given keys))) (sym (apart k j e)) ∙ ap (put (h k)) (sym (one_given (h j) (filter_map h keys))))))
      by Greater e rest =
          rw (e, set_insert)
          (one_given (h j) (filter_map h (set_insert key_cmp k keys))
          ∙ (ap (put (h j)) rest
          ∙ (put_swap (h j) (h k) (given keys) ∙ ap (put (h k)) (sym (one_given (h j) (filter_map h keys))))))

  pub same_given : (keys : List K) → given keys ≡ given (set_of key_cmp keys)
  same_given [] = refl
  same_given (k ∷ keys) = one_given (h k) (filter_map h keys) ∙ (ap (put (h k)) (same_given keys) ∙ sym (given_inserted k (set_of key_cmp keys)))

-- ---- states that stand in order are each found at their place

abbrev pub Found : StateList → (ℕ × ℕ) × State → Type 0
Found states e = state_of states e.0.0 e.0.1 ≡ Some e.1

found_behind : (d : (ℕ × ℕ) × State) (states some : StateList) → AllByRecursion (λ p. state_key_cmp d.0 p ≡ Less) (keys_of some) → AllByRecursion (Found states) some → AllByRecursion (Found (d ∷ states)) some
found_behind d states [] above found = tt
found_behind d states (e ∷ some) above found = (ap (λ b. cond b (Some d.1) (state_of states e.0.0 e.0.1)) (ap is_eq (state_key_total.antisymm e.0 d.0 ∙ ap ordering_reverse above.0)) ∙ found.0, found_behind d states some above.1 found.1)

pub all_found : (states : StateList) → AreStates states → AllByRecursion (Found states) states
unfolding IsStrictlySortedBy
all_found [] ordered = tt
all_found (e ∷ states) ordered =
    (ap (λ b. cond b (Some e.1) (state_of states e.0.0 e.0.1)) (ap is_eq (tied_itself state_key_total e.0)), found_behind e states states ordered.0 (all_found states ordered.1))

-- ---- the ranked entries of states

module _ (order : Order) (vertex : ℕ) (states : StateList) where
  abbrev ranked_if : (place : ℕ × ℕ) → Option State → Option Ranked
  ranked_if place None = None
  ranked_if place (Some s) = cond (place.0 == vertex) (Some (ranked order (place, s))) None

  abbrev ranked_at : ℕ × ℕ → Option Ranked
  ranked_at place = ranked_if place (state_of states place.0 place.1)

  -- those of entries that are found are what their places give
  by_places : (entries : StateList) → AllByRecursion (Found states) entries → map (ranked order) (kept_by vertex entries) ≡ filter_map ranked_at (keys_of entries)
  by_places [] found = refl
  by_places (e ∷ entries) found =
      by (e.0.0 == vertex) (by_places entries found.1) ∙ sym (ap (λ o. cons_option (ranked_if e.0 o) (filter_map ranked_at (keys_of entries))) found.0)
    where
      by : (b : Bool) → map (ranked order) (kept_by vertex entries) ≡ filter_map ranked_at (keys_of entries)
          → map (ranked order) (cond b (e ∷ kept_by vertex entries) (kept_by vertex entries)) ≡ cons_option (cond b (Some (ranked order e)) None) (filter_map ranked_at (keys_of entries))
      by true rest = ap (λ l. ranked order e ∷ l) rest
      by false rest = rest

  -- THE SAME in whatever order they come
  pub same_ranked : SetLaws ranked_cmp → AreStates states → (entries : StateList) → AllByRecursion (Found states) entries → set_of state_key_cmp (keys_of entries) ≡ keys_of states
      → set_of ranked_cmp (map (ranked order) (kept_by vertex entries)) ≡ set_of ranked_cmp (map (ranked order) (kept_by vertex states))
  same_ranked laws ordered entries found all =
      ap (set_of ranked_cmp) (by_places entries found)
      ∙ (same_given state_key_cmp state_key_apart ranked_cmp ranked_total laws ranked_at (keys_of entries)
      ∙ (ap (λ l. set_of ranked_cmp (filter_map ranked_at l)) all
      ∙ ap (set_of ranked_cmp) (sym (by_places states (all_found states ordered)))))

  pub same_in_all : (count : Option ℕ) → SetLaws ranked_cmp → AreStates states → (entries : StateList) → AllByRecursion (Found states) entries → set_of state_key_cmp (keys_of entries) ≡ keys_of states
      → in_all order count vertex entries [] ≡ in_all order count vertex states []
  same_in_all count laws ordered entries found all =
      ap (at_most count)
      (all_put ranked_cmp laws (to_put order count vertex entries)
      ∙ (same_ranked laws ordered entries found all
      ∙ sym (all_put ranked_cmp laws (to_put order count vertex states))))
