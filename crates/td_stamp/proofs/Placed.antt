-- Kept states as they are found at their vertices and keys, and as these stand in order.
use Rattle.std.proofs.Common.{◌≡◌, ℕ, ◌||◌, List, [], ◌∷◌, refl, ap, sym, ◌∙◌, subst, Bool, true, false, cond}
use Rattle.std.specs.Prelude.{Option, Some, None, is_some, pos}
use Rattle.std.specs.Option.{unwrap_or}
use Rattle.std.specs.List.{AllByRecursion, list_any}
use Rattle.std.specs.List.Sorted.{IsStrictlySortedBy}
use Rattle.std.specs.Map.{lookup, remove_entry, keys_of}
use Rattle.std.specs.Set.{remove_key}
use Rattle.std.specs.BTreeMap.{insert_entry, is_at}
use Rattle.std.specs.BTreeSet.{insert_key}
use Rattle.std.specs.declared.cmp.Ordering.{Ordering}
use Rattle.std.specs.declared.cmp.Ordering.TheVariants.{Less, Equal, Greater}
use Rattle.std.specs.Ordering.{is_eq}
use Rattle.std.proofs.lemmas.Map.Keys.{sorted_head, sorted_tail}
use Rattle.std.proofs.lemmas.Cmp.{tied_itself, eq_by_cmp_equiv}
use Rattle.td_stamp.specs.declared.values.State.{State}
use Rattle.td_stamp.specs.Orders.{state_key_cmp}
use Rattle.td_stamp.specs.ProvedOrders.{state_key_total, state_key_apart, places_tied}
use Rattle.td_stamp.specs.States.{StateList, AreStates, same_place, found_at, listed}

abbrev pub is_there : ℕ × ℕ → ℕ × ℕ → Bool
is_there p = is_at (state_key_cmp p)

-- a place that the test finds is the one
pub there : (p q : ℕ × ℕ) → is_there p q ≡ true → p ≡ q
there p q h = by (state_key_cmp p q) refl h
  where
    by : (r : Ordering) → state_key_cmp p q ≡ r → is_eq r ≡ true → p ≡ q
    by Less e h = cc
    by Equal e h = state_key_apart p q e
    by Greater e h = cc

-- the place is where the test says so
pub place_is : (p q : ℕ × ℕ) → same_place p q ≡ true → p ≡ q
place_is p q h = there p q (places_tied p q ∙ h)

-- a place where a state is put is one at which there is a state: where it was one before
pub still : (b d : Bool) (s : Option State) (x : State) (held : Bool) → b ≡ d → held ≡ is_some s → (d ≡ true → is_some s ≡ true) → held ≡ is_some (cond d (Some x) s)
still true true s x held e h f = h ∙ f refl
still false false s x held e h f = h
still true false s x held e h f = cc
still false true s x held e h f = cc

-- ---- a look-up

module _ (find : ℕ × ℕ → Option State) (p : ℕ × ℕ) where
  found_if : (places : List (ℕ × ℕ)) → lookup (is_there p) (listed places find) ≡ cond (list_any (is_there p) places) (Some (found_at find p)) None
  found_if [] = refl
  found_if (q ∷ places) = by (is_there p q) refl (found_if places)
    where
      by : (b : Bool) → is_there p q ≡ b → lookup (is_there p) (listed places find) ≡ cond (list_any (is_there p) places) (Some (found_at find p)) None
          → cond b (Some (found_at find q)) (lookup (is_there p) (listed places find)) ≡ cond (b || list_any (is_there p) places) (Some (found_at find p)) None
      by true e rest = ap (λ r. Some (found_at find r)) (sym (there p q e))
      by false e rest = rest

  -- where the places are those at which there is a state, it is what is found there
  pub looked_up : (places : List (ℕ × ℕ)) → list_any (is_there p) places ≡ is_some (find p) → lookup (is_there p) (listed places find) ≡ find p
  looked_up places e = found_if places ∙ ap (λ b. cond b (Some (found_at find p)) None) e ∙ by (find p)
    where
      by : (s : Option State) → cond (is_some s) (Some (unwrap_or s (record { a = pos 0; b = pos 0 }))) None ≡ s
      by None = refl
      by (Some s) = refl

-- the places of what is listed
pub places_listed : (places : List (ℕ × ℕ)) (find : ℕ × ℕ → Option State) → keys_of (listed places find) ≡ places
places_listed [] find = refl
places_listed (p ∷ places) find = ap (λ ps. p ∷ ps) (places_listed places find)

pub in_order : (places : List (ℕ × ℕ)) (find : ℕ × ℕ → Option State) → IsStrictlySortedBy state_key_cmp places → AreStates (listed places find)
in_order places find h = subst (IsStrictlySortedBy state_key_cmp) (sym (places_listed places find)) h

-- ---- a change at one place

-- no place of these is the one
abbrev AreOthers : ℕ × ℕ → List (ℕ × ℕ) → Type 0
AreOthers p places = list_any (is_there p) places ≡ false

-- places above the one are others
others_above : (p : ℕ × ℕ) (places : List (ℕ × ℕ)) → AllByRecursion (λ q. state_key_cmp p q ≡ Less) places → AreOthers p places
others_above p [] h = refl
others_above p (q ∷ places) h = rw (h.0) (others_above p places h.1)

above_both : (p q : ℕ × ℕ) (places : List (ℕ × ℕ)) → state_key_cmp p q ≡ Less → AllByRecursion (λ r. state_key_cmp q r ≡ Less) places → AllByRecursion (λ r. state_key_cmp p r ≡ Less) places
above_both p q [] l h = tt
above_both p q (r ∷ places) l h = (state_key_total.trans p q r l h.0, above_both p q places l h.1)

or_false : (b c : Bool) → (b || c) ≡ false → (b ≡ false) × (c ≡ false)
or_false true c h = cc
or_false false c h = (refl, h)

module _ (find after : ℕ × ℕ → Option State) (p : ℕ × ℕ) (w : Option State) (agree : (q : ℕ × ℕ) → after q ≡ cond (same_place p q) w (find q)) where
  at_it : (q : ℕ × ℕ) → is_there p q ≡ true → w ≡ after q
  at_it q e = sym (agree q ∙ ap (λ b. cond b w (find q)) (sym (places_tied p q) ∙ e))

  at_other : (q : ℕ × ℕ) → is_there p q ≡ false → find q ≡ after q
  at_other q e = sym (agree q ∙ ap (λ b. cond b w (find q)) (sym (places_tied p q) ∙ e))

  others_stay : (places : List (ℕ × ℕ)) → AreOthers p places → listed places find ≡ listed places after
  others_stay [] h = refl
  others_stay (q ∷ places) h =
      let parts = or_false (is_there p q) (list_any (is_there p) places) h in
      (λ i. (q, unwrap_or (at_other q parts.0 i) (record { a = pos 0; b = pos 0 })) ∷ others_stay places parts.1 i)

-- a state is put where there is one
module _ (find after : ℕ × ℕ → Option State) (p : ℕ × ℕ) (s : State) (agree : (q : ℕ × ℕ) → after q ≡ cond (same_place p q) (Some s) (find q)) where
  put_at : (q : ℕ × ℕ) → is_there p q ≡ true → s ≡ found_at after q
  put_at q e = ap (λ o. unwrap_or o (record { a = pos 0; b = pos 0 })) (at_it find after p (Some s) agree q e)

  put_beside : (q : ℕ × ℕ) → is_there p q ≡ false → found_at find q ≡ found_at after q
  put_beside q e = ap (λ o. unwrap_or o (record { a = pos 0; b = pos 0 })) (at_other find after p (Some s) agree q e)

  pub set_where_kept : (places : List (ℕ × ℕ)) → IsStrictlySortedBy state_key_cmp places → list_any (is_there p) places ≡ true
      → insert_entry state_key_cmp (listed places find) p s ≡ listed places after
  set_where_kept [] h e = cc
  set_where_kept (q ∷ places) h e = by (state_key_cmp p q) refl (set_where_kept places (sorted_tail state_key_cmp q places h))
    where
      above : AllByRecursion (λ r. state_key_cmp q r ≡ Less) places
      above = sorted_head state_key_cmp q places h

      by : (r : Ordering) → state_key_cmp p q ≡ r
          → (list_any (is_there p) places ≡ true → insert_entry state_key_cmp (listed places find) p s ≡ listed places after)
          → insert_entry state_key_cmp (listed (q ∷ places) find) p s ≡ listed (q ∷ places) after
      by Less f rest =
          let none : list_any (is_there p) places ≡ false = others_above p places (above_both p q places f above) in
          let c : true ≡ false = sym e ∙ ap (λ b. b || list_any (is_there p) places) (ap is_eq f) ∙ none in cc
      by Equal f rest =
          let same : p ≡ q = state_key_apart p q f in
          let none : AreOthers p places = others_above p places (subst (λ x. AllByRecursion (λ r. state_key_cmp x r ≡ Less) places) (sym same) above) in
          rw (f) (λ i. (q, put_at q (ap is_eq f) i) ∷ others_stay find after p (Some s) agree places none i)
      by Greater f rest =
          let later : list_any (is_there p) places ≡ true = sym (ap (λ b. b || list_any (is_there p) places) (ap is_eq f)) ∙ e in
          rw (f) (λ i. (q, put_beside q (ap is_eq f) i) ∷ rest later i)

  -- and where there is none
  pub set_where_none : (places : List (ℕ × ℕ)) → list_any (is_there p) places ≡ false
      → insert_entry state_key_cmp (listed places find) p s ≡ listed (insert_key state_key_cmp places p) after
  set_where_none [] e = λ i. (p, put_at p (ap is_eq (tied_itself state_key_total p)) i) ∷ []
  set_where_none (q ∷ places) e = by (state_key_cmp p q) refl (set_where_none places (or_false (is_there p q) (list_any (is_there p) places) e).1)
    where
      by : (r : Ordering) → state_key_cmp p q ≡ r
          → insert_entry state_key_cmp (listed places find) p s ≡ listed (insert_key state_key_cmp places p) after
          → insert_entry state_key_cmp (listed (q ∷ places) find) p s ≡ listed (insert_key state_key_cmp (q ∷ places) p) after
      by Less f rest = rw (f) (λ i. (p, put_at p (ap is_eq (tied_itself state_key_total p)) i) ∷ others_stay find after p (Some s) agree (q ∷ places) e i)
      by Equal f rest = let c : true ≡ false = sym (ap is_eq f) ∙ (or_false (is_there p q) (list_any (is_there p) places) e).0 in cc
      by Greater f rest = rw (f) (λ i. (q, put_beside q (ap is_eq f) i) ∷ rest i)

-- a state is taken away
module _ (find after : ℕ × ℕ → Option State) (p : ℕ × ℕ) (agree : (q : ℕ × ℕ) → after q ≡ cond (same_place p q) None (find q)) where
  pub taken_away : (places : List (ℕ × ℕ)) → IsStrictlySortedBy state_key_cmp places
      → remove_entry (is_there p) (listed places find) ≡ listed (remove_key (is_there p) places) after
  taken_away [] h = refl
  taken_away (q ∷ places) h = by (is_there p q) refl (taken_away places (sorted_tail state_key_cmp q places h))
    where
      by : (b : Bool) → is_there p q ≡ b → remove_entry (is_there p) (listed places find) ≡ listed (remove_key (is_there p) places) after
          → cond b (listed places find) ((q, found_at find q) ∷ remove_entry (is_there p) (listed places find)) ≡ listed (cond b places (q ∷ remove_key (is_there p) places)) after
      by true e rest =
          others_stay find after p None agree places (others_above p places (subst (λ x. AllByRecursion (λ r. state_key_cmp x r ≡ Less) places) (sym (there p q e)) (sorted_head state_key_cmp q places h)))
      by false e rest = λ i. (q, unwrap_or (at_other find after p None agree q e i) (record { a = pos 0; b = pos 0 })) ∷ rest i

-- ---- that the places are those at which there is a state

abbrev pub AreThose : List (ℕ × ℕ) → (ℕ × ℕ → Option State) → Type 0
AreThose places find = (q : ℕ × ℕ) → list_any (is_there q) places ≡ is_some (find q)

-- the same states are found
pub listed_alike : (places : List (ℕ × ℕ)) (find after : ℕ × ℕ → Option State) → ((q : ℕ × ℕ) → after q ≡ find q) → listed places after ≡ listed places find
listed_alike places find after h = ap (listed places) (λ i q. h q i)

-- ---- what is found as in a list that is such a map, at its places, is that list

pub seen_from : (q p : ℕ × ℕ) → is_there q p ≡ same_place p q
seen_from q p = (eq_by_cmp_equiv state_key_total).symm q p ∙ places_tied p q

pub relisted : (states : StateList) (find : ℕ × ℕ → Option State) → AreStates states → ((q : ℕ × ℕ) → find q ≡ lookup (is_there q) states) → listed (keys_of states) find ≡ states
relisted [] find ordered found = refl
relisted (e ∷ states) find ordered found =
    λ i. ((e.0, here i) ∷ (sym stay ∙ relisted states rest (sorted_tail state_key_cmp e.0 (keys_of states) ordered) (λ q. refl)) i)
  where
    rest : ℕ × ℕ → Option State
    rest q = lookup (is_there q) states

    here : found_at find e.0 ≡ e.1
    here = ap (λ o. unwrap_or o (record { a = pos 0; b = pos 0 })) (found e.0 ∙ ap (λ b. cond b (Some e.1) (rest e.0)) (ap is_eq (tied_itself state_key_total e.0)))

    agree : (q : ℕ × ℕ) → find q ≡ cond (same_place e.0 q) (Some e.1) (rest q)
    agree q = found q ∙ ap (λ b. cond b (Some e.1) (rest q)) (seen_from q e.0)

    stay : listed (keys_of states) rest ≡ listed (keys_of states) find
    stay = others_stay rest find e.0 (Some e.1) agree (keys_of states) (others_above e.0 (keys_of states) (sorted_head state_key_cmp e.0 (keys_of states) ordered))
