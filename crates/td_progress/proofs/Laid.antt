-- The places of a plan stand first, at their numbers: what a change of what is held keeps of that.
use Rattle.std.proofs.Common.{◌≡◌, ℕ, zero, suc, ◌+◌, ◌-◌, ◌<◌, ◌≤◌, Bool, true, false, cond, List, [], ◌∷◌, ◌++◌, length, map, slice_get, Some, unwrap_or, refl, sym, ap, ◌∙◌, subst, true≢false, arith, nat_lt}
use Rattle.std.proofs.lemmas.Bool.Decides.{nat_tests}
use Rattle.std.proofs.lemmas.List.Sums.{sum_by-cons}
use Rattle.std.specs.List.{AllByRecursion, IsDistinct, range_with_len}
use Rattle.std.specs.Map.{keys_of, remove_entry}
use Rattle.indexmap.specs.IndexMap.{insert_entry}
use Rattle.std.proofs.lemmas.List.FromFn.{map-range_with_len_more}
use Rattle.td_stamp.specs.Time.{depth}
use Rattle.td_plan.specs.Lines.{Line}
use Rattle.td_plan.specs.Blocks.{vertices}
use Rattle.td_reach.specs.declared.stamp.Place.TheVariants as places
use Rattle.td_reach.specs.declared.stamp.Stamp.{Stamp}
use Rattle.td_progress.specs.Bag.{is_stamp}
use Rattle.td_progress.specs.Gaps.{Mark, with_epoch, without_epoch}
use Rattle.td_progress.specs.Ways.{places_of, place_at, number_of, outside}
use Rattle.td_progress.specs.Held.{all_marked, total, between, with_stamp, without_stamp, IsChain, IsLaidOut, AllTimed, AreHeld, empty_chains}
use Rattle.td_progress.proofs.Same.{Decides-is_stamp}
use Rattle.td_progress.proofs.Counted.{none_is_some}
use Rattle.td_progress.proofs.Gaps.{Gaps}
use Rattle.td_progress.proofs.Between.{Chains, all_shifted, keys_shifted}
use Rattle.td_progress.proofs.Rows.{listed_at, within_some}

some_same : {x y : Stamp} → Some x ≡ Some y → x ≡ y
some_same {x} e = ap (λ o. unwrap_or o x) e

-- each key stays where it stands
keys_with_at : (c : Stamp) (e : ℕ) (n : Mark) (ks : Chains) (i : ℕ) (s : Stamp) → slice_get (keys_of ks) i ≡ Some s → slice_get (keys_of (with_stamp c e n ks)) i ≡ Some s
keys_with_at c e n [] i s h = absurd (none_is_some h)
keys_with_at c e n (k ∷ ks) i s h = by (is_stamp c k.0) i h (λ j g. keys_with_at c e n ks j s g)
  where
    by : (b : Bool) (i : ℕ) → slice_get (k.0 ∷ keys_of ks) i ≡ Some s → ((j : ℕ) → slice_get (keys_of ks) j ≡ Some s → slice_get (keys_of (with_stamp c e n ks)) j ≡ Some s)
        → slice_get (keys_of (cond b ((k.0, with_epoch e n k.1) ∷ ks) (k ∷ with_stamp c e n ks))) i ≡ Some s
    by true i g rest = g
    by false zero g rest = g
    by false (suc j) g rest = rest j g

pub keys_without : (c : Stamp) (e : ℕ) (ks : Chains) → keys_of (without_stamp c e ks) ≡ keys_of ks
keys_without c e [] = refl
keys_without c e (k ∷ ks) = by (is_stamp c k.0) (keys_without c e ks)
  where
    by : (b : Bool) → keys_of (without_stamp c e ks) ≡ keys_of ks → keys_of (cond b ((k.0, without_epoch e k.1) ∷ ks) (k ∷ without_stamp c e ks)) ≡ k.0 ∷ keys_of ks
    by true rest = refl
    by false rest = ap (λ js. k.0 ∷ js) rest

removed_at : (c : Stamp) (ks : Chains) (n : ℕ) (v : ℕ → Stamp) → ((i : ℕ) → is_stamp c (v i) ≡ false) → ((i : ℕ) → i < n → slice_get (keys_of ks) i ≡ Some (v i))
    → (i : ℕ) → i < n → slice_get (keys_of (remove_entry (is_stamp c) ks)) i ≡ Some (v i)
removed_at c ks zero v apart h i lt = absurd (omega (arith, lt))
removed_at c [] (suc n) v apart h i lt = absurd (none_is_some (h 0 (omega arith)))
removed_at c (k ∷ ks) (suc n) v apart h i lt =
    by (is_stamp c k.0) refl i lt (λ j l. removed_at c ks n (λ m. v (suc m)) (λ m. apart (suc m)) (λ m x. h (suc m) (omega (arith, x))) j l)
  where
    by : (b : Bool) → is_stamp c k.0 ≡ b → (i : ℕ) → i < suc n → ((j : ℕ) → j < n → slice_get (keys_of (remove_entry (is_stamp c) ks)) j ≡ Some (v (suc j)))
        → slice_get (keys_of (cond b ks (k ∷ remove_entry (is_stamp c) ks))) i ≡ Some (v i)
    by true same i lt rest = absurd (true≢false (sym same ∙ (ap (is_stamp c) (some_same (h 0 (omega arith))) ∙ apart 0)))
    by false other zero lt rest = h 0 (omega arith)
    by false other (suc j) lt rest = rest j (omega (arith, lt))

module _ (plan : List Line) where
  pub laid_long : (keys : List Stamp) → IsLaidOut plan keys → places_of plan ≤ length keys
  laid_long keys h = by (places_of plan) h
    where
      by : (n : ℕ) → ((i : ℕ) → i < n → slice_get keys i ≡ Some (outside plan i)) → n ≤ length keys
      by zero g = omega arith
      by (suc m) g = let r = within_some keys m (outside plan m) (g m (omega arith)) in omega (arith, r)

  -- one in a loop is none of them
  apart_outside : (c : Stamp) → 0 < depth c.time → (i : ℕ) → is_stamp c (outside plan i) ≡ false
  apart_outside c deep i = by (is_stamp c (outside plan i)) refl
    where
      by : (b : Bool) → is_stamp c (outside plan i) ≡ b → is_stamp c (outside plan i) ≡ false
      by true same = absurd (let e = ap (λ (s : Stamp). depth s.time) ((Decides-is_stamp c (outside plan i)).0 same) in omega (arith, e, deep))
      by false other = other

  pub laid_come : (c : Stamp) (e : ℕ) (n : Mark) (f : ℕ → ℕ) (ks : Chains) → IsLaidOut plan (keys_of ks) → IsLaidOut plan (keys_of (all_shifted plan c e f (with_stamp c e n ks)))
  laid_come c e n f ks h i lt = ap (λ js. slice_get js i) (keys_shifted plan (with_stamp c e n ks) c e f) ∙ keys_with_at c e n ks i (outside plan i) (h i lt)

  pub laid_with : (c : Stamp) (e : ℕ) (n : Mark) (ks : Chains) → IsLaidOut plan (keys_of ks) → IsLaidOut plan (keys_of (with_stamp c e n ks))
  laid_with c e n ks h i lt = keys_with_at c e n ks i (outside plan i) (h i lt)

  pub laid_go : (c : Stamp) (e : ℕ) (f : ℕ → ℕ) (ks : Chains) → IsLaidOut plan (keys_of ks) → IsLaidOut plan (keys_of (without_stamp c e (all_shifted plan c e f ks)))
  laid_go c e f ks h = subst (IsLaidOut plan) (sym (keys_without c e (all_shifted plan c e f ks) ∙ keys_shifted plan ks c e f)) h

  pub laid_removed : (c : Stamp) (ks : Chains) → 0 < depth c.time → IsLaidOut plan (keys_of ks) → IsLaidOut plan (keys_of (remove_entry (is_stamp c) ks))
  laid_removed c ks deep h = removed_at c ks (places_of plan) (outside plan) (apart_outside c deep) h

  -- Where nothing is active
  abbrev empty_at : ℕ → Stamp × Gaps
  empty_at i = (outside plan i, [])

  number_at : (i : ℕ) → number_of plan (place_at plan i) ≡ i
  number_at i = by (nat_lt i (length (vertices plan))) refl
    where
      by : (b : Bool) → nat_lt i (length (vertices plan)) ≡ b → number_of plan (place_at plan i) ≡ i
      by true is = ap (λ b. number_of plan (cond b (places.Vertex i) (places.Edge (i - length (vertices plan))))) is
      by false is =
          let high : length (vertices plan) ≤ i = grind (arith, nat_tests, is) in
          ap (λ b. number_of plan (cond b (places.Vertex i) (places.Edge (i - length (vertices plan))))) is ∙ omega (arith, high)

  differ : (i j : ℕ) → j < i → is_stamp (outside plan i) (outside plan j) ≡ false
  differ i j lt = by (is_stamp (outside plan i) (outside plan j)) refl
    where
      by : (b : Bool) → is_stamp (outside plan i) (outside plan j) ≡ b → is_stamp (outside plan i) (outside plan j) ≡ false
      by true same =
          let e : i ≡ j = sym (number_at i) ∙ (ap (λ (s : Stamp). number_of plan s.place) ((Decides-is_stamp (outside plan i) (outside plan j)).0 same) ∙ number_at j) in
          absurd (omega (arith, e, lt))
      by false other = other

  apart_all : (a n i : ℕ) → a + n ≤ i → AllByRecursion (λ k. is_stamp (outside plan i) k ≡ false) (keys_of (map empty_at (range_with_len a n)))
  apart_all a zero i le = tt
  apart_all a (suc n) i le = (differ i a (omega (arith, le)), apart_all (a + 1) n i (omega (arith, le)))

  insert_apart : (c : Stamp) (es : Chains) → AllByRecursion (λ k. is_stamp c k ≡ false) (keys_of es) → insert_entry is_stamp es c [] ≡ es ++ (c, []) ∷ []
  insert_apart c [] h = refl
  insert_apart c (k ∷ es) h = ap (λ b. cond b ((k.0, []) ∷ es) (k ∷ insert_entry is_stamp es c [])) h.0 ∙ ap (λ r. k ∷ r) (insert_apart c es h.1)

  pub insert_next : (i : ℕ) (es : Chains) → es ≡ map empty_at (range_with_len 0 i) → insert_entry is_stamp es (outside plan i) [] ≡ map empty_at (range_with_len 0 (i + 1))
  insert_next i es is =
      insert_apart (outside plan i) es (subst (λ js. AllByRecursion (λ k. is_stamp (outside plan i) k ≡ false) (keys_of js)) (sym is) (apart_all 0 i i (omega arith)))
      ∙ (ap (λ js. js ++ empty_at i ∷ []) is ∙ sym (map-range_with_len_more empty_at 0 i i (omega arith)))

  keys_empty : (is : List ℕ) → keys_of (map empty_at is) ≡ map (outside plan) is
  keys_empty [] = refl
  keys_empty (i ∷ is) = ap (λ js. outside plan i ∷ js) (keys_empty is)

  laid_empty : IsLaidOut plan (keys_of (empty_chains plan))
  laid_empty i lt = ap (λ js. slice_get js i) (keys_empty (range_with_len 0 (places_of plan))) ∙ listed_at (outside plan) (places_of plan) i lt

  each_empty : (count : Stamp → ℕ → ℕ → ℕ) (is : List ℕ) → AllByRecursion (IsChain plan count) (map empty_at is)
  each_empty count [] = tt
  each_empty count (i ∷ is) = (record { of_plan = λ l. absurd (omega (arith, l)); class = refl; gaps = tt }, each_empty count is)

  marked_none : (is : List ℕ) → all_marked (map empty_at is) ≡ []
  marked_none [] = refl
  marked_none (i ∷ is) = marked_none is

  timed_none : (is : List ℕ) → AllTimed (map empty_at is)
  timed_none [] = tt
  timed_none (i ∷ is) = (tt, timed_none is)

  total_none : (is : List ℕ) → total (map empty_at is) ≡ 0
  total_none [] = refl
  total_none (i ∷ is) = let a = sum_by-cons (λ (j : Stamp × Gaps). length j.1) (empty_at i) (map empty_at is) in let rest = total_none is in omega (arith, a, rest)

  pub nothing_marked : all_marked (empty_chains plan) ≡ []
  nothing_marked = marked_none (range_with_len 0 (places_of plan))

  pub nothing_timed : AllTimed (empty_chains plan)
  nothing_timed = timed_none (range_with_len 0 (places_of plan))

  pub nothing_in_all : total (empty_chains plan) ≡ 0
  nothing_in_all = total_none (range_with_len 0 (places_of plan))

  pub nothing_kept : IsDistinct is_stamp (keys_of (empty_chains plan)) → AreHeld plan (empty_chains plan)
  nothing_kept once = record { once = once; laid = laid_empty; each = each_empty (between plan (empty_chains plan)) (range_with_len 0 (places_of plan)) }
