-- A change visits the places that lead to its own, or to which it leads, and what stands behind all places: the others count for
-- nothing, and stay as they are.
use Rattle.std.proofs.Common.{◌≡◌, ℕ, zero, suc, ◌+◌, ◌-◌, ◌<◌, ◌≤◌, Bool, true, false, cond, List, [], ◌∷◌, ◌++◌, length, map, filter, fold, slice_get, Option, Some, None, is_some, unwrap_or, take, slice_index_or, refl, sym, ap, ◌∙◌, subst, true≢false, arith}
use Rattle.std.proofs.lemmas.List.Sums.{sum_by-cons, sum_by_push, sum_by_more, sum_by-take-le, fold-append, fold_more}
use Rattle.std.specs.List.{AllByRecursion, range_with_len, sum_by}
use Rattle.std.specs.Map.{keys_of}
use Rattle.td_stamp.specs.Time.{depth}
use Rattle.td_plan.specs.Lines.{Line}
use Rattle.td_reach.specs.declared.stamp.Place.{Place}
use Rattle.td_reach.specs.declared.stamp.Stamp.{Stamp}
use Rattle.td_reach.specs.Paths.{HasPlace, IsOf, Could, Leads}
use Rattle.td_reach.specs.Tables.{could_test, leads_test}
use Rattle.td_progress.specs.declared.ways.Side.{Side}
use Rattle.td_progress.specs.declared.ways.Side.TheVariants as sides
use Rattle.td_progress.specs.Gaps.{within, changed_from, first_from}
use Rattle.td_progress.specs.Ways.{places_of, place_at, number_of, outside, is_on, row}
use Rattle.td_progress.specs.Held.{total, between, count_in, epochs_in, count_among, shifted, shifted_at, changed_in, all_shifted_at, IsOfPlan, IsLaidOut}
use Rattle.td_progress.proofs.Counted.{none_is_some}
use Rattle.td_progress.proofs.Gaps.{Gaps, length_changed}
use Rattle.td_progress.proofs.Between.{Chains, between_le}
use Rattle.td_progress.proofs.Rows.{same_place, range_more}
use Rattle.td_progress.proofs.Laid.{laid_long}

abbrev K : Type 0
K = Stamp × Gaps

same_chain : {x y : K} → Some x ≡ Some y → x ≡ y
same_chain {x} e = ap (λ o. unwrap_or o x) e

same_stamp : {x y : Stamp} → Some x ≡ Some y → x ≡ y
same_stamp {x} e = ap (λ o. unwrap_or o x) e

all_at : (P : K → Type 0) (ks : Chains) → AllByRecursion P ks → (i : ℕ) (k : K) → slice_get ks i ≡ Some k → P k
all_at P [] h i k at = absurd (none_is_some at)
all_at P (j ∷ ks) h zero k at = subst P (same_chain at) h.0
all_at P (j ∷ ks) h (suc i) k at = all_at P ks h.1 i k at

key_at : (ks : Chains) (i : ℕ) (k : K) → slice_get ks i ≡ Some k → slice_get (keys_of ks) i ≡ Some k.0
key_at [] i k at = absurd (none_is_some at)
key_at (j ∷ ks) zero k at = ap (λ (x : K). Some x.0) (same_chain at)
key_at (j ∷ ks) (suc i) k at = key_at ks i k at

long_keys : (ks : Chains) → length (keys_of ks) ≡ length ks
long_keys [] = refl
long_keys (k ∷ ks) = ap suc (long_keys ks)

-- WHAT IS COUNTED
module _ (f : ℕ → ℕ) (g : K → ℕ) where
  sum_all : (ks : Chains) (s : ℕ) → ((i j : ℕ) (k : K) → s + i ≡ j → slice_get ks i ≡ Some k → f j ≡ g k) → sum_by f (range_with_len s (length ks)) ≡ sum_by g ks
  sum_all [] s same = refl
  sum_all (k ∷ ks) s same =
      let a = sum_by-cons f s (range_with_len (s + 1) (length ks)) in
      let b = sum_by-cons g k ks in
      let here = same 0 s k (omega arith) refl in
      let rest = sum_all ks (s + 1) (λ i j l e at. same (suc i) j l (omega (arith, e)) at) in
      omega (arith, a, b, here, rest)

  sum_visited : (t : ℕ → Bool) (ks : Chains) (s n m r : ℕ) → s + n ≡ m → length ks ≡ n + r
      → ((i j : ℕ) (k : K) → s + i ≡ j → slice_get ks i ≡ Some k → f j ≡ g k)
      → ((i j : ℕ) (k : K) → s + i ≡ j → i < n → slice_get ks i ≡ Some k → t j ≡ false → g k ≡ 0)
      → sum_by f (filter t (range_with_len s n)) + sum_by f (range_with_len m r) ≡ sum_by g ks
  sum_visited t ks s zero m r start long same none =
      let whole : r ≡ length ks = omega (arith, long) in
      let first : m ≡ s = omega (arith, start) in
      let all : sum_by f (range_with_len m r) ≡ sum_by g ks = (λ i. sum_by f (range_with_len (first i) (whole i))) ∙ sum_all ks s same in
      omega (arith, all)
  sum_visited t [] s (suc n) m r start long same none = absurd (omega (arith, long))
  sum_visited t (k ∷ ks) s (suc n) m r start long same none =
      by (t s) refl
      (sum_visited t ks (s + 1) n m r (omega (arith, start)) (omega (arith, long))
      (λ i j l e at. same (suc i) j l (omega (arith, e)) at)
      (λ i j l e lt at not. none (suc i) j l (omega (arith, e)) (omega (arith, lt)) at not))
    where
      by : (b : Bool) → t s ≡ b → sum_by f (filter t (range_with_len (s + 1) n)) + sum_by f (range_with_len m r) ≡ sum_by g ks
          → sum_by f (cond b (s ∷ filter t (range_with_len (s + 1) n)) (filter t (range_with_len (s + 1) n))) + sum_by f (range_with_len m r) ≡ sum_by g (k ∷ ks)
      by true is rest =
          let a = sum_by-cons f s (filter t (range_with_len (s + 1) n)) in
          let b = sum_by-cons g k ks in
          let here = same 0 s k (omega arith) refl in
          omega (arith, a, b, here, rest)
      by false not rest =
          let b = sum_by-cons g k ks in
          let here = none 0 s k (omega arith) (omega arith) refl not in
          omega (arith, b, here, rest)

  -- a part of them is no more than all
  sum_some : (t : ℕ → Bool) (ks : Chains) (s n m r : ℕ) → s + n ≡ m → length ks ≡ n + r
      → ((i j : ℕ) (k : K) → s + i ≡ j → slice_get ks i ≡ Some k → f j ≡ g k)
      → sum_by f (filter t (range_with_len s n)) + sum_by f (range_with_len m r) ≤ sum_by g ks
  sum_some t ks s zero m r start long same =
      let whole : r ≡ length ks = omega (arith, long) in
      let first : m ≡ s = omega (arith, start) in
      let all : sum_by f (range_with_len m r) ≡ sum_by g ks = (λ i. sum_by f (range_with_len (first i) (whole i))) ∙ sum_all ks s same in
      omega (arith, all)
  sum_some t [] s (suc n) m r start long same = absurd (omega (arith, long))
  sum_some t (k ∷ ks) s (suc n) m r start long same =
      by (t s) (sum_some t ks (s + 1) n m r (omega (arith, start)) (omega (arith, long)) (λ i j l e at. same (suc i) j l (omega (arith, e)) at))
    where
      by : (b : Bool) → sum_by f (filter t (range_with_len (s + 1) n)) + sum_by f (range_with_len m r) ≤ sum_by g ks
          → sum_by f (cond b (s ∷ filter t (range_with_len (s + 1) n)) (filter t (range_with_len (s + 1) n))) + sum_by f (range_with_len m r) ≤ sum_by g (k ∷ ks)
      by true rest =
          let a = sum_by-cons f s (filter t (range_with_len (s + 1) n)) in
          let b = sum_by-cons g k ks in
          let here = same 0 s k (omega arith) refl in
          omega (arith, a, b, here, rest)
      by false rest = let b = sum_by-cons g k ks in omega (arith, b, rest)

-- further numbers add to what is counted
further : (f : ℕ → ℕ) (n k m : ℕ) → k ≤ m → sum_by f (range_with_len n k) ≤ sum_by f (range_with_len n m)
further f n zero m le = omega arith
further f n (suc k) zero le = absurd (omega (arith, le))
further f n (suc k) (suc m) le =
    let a = sum_by-cons f n (range_with_len (n + 1) k) in
    let b = sum_by-cons f n (range_with_len (n + 1) m) in
    let rest = further f (n + 1) k m (omega (arith, le)) in
    omega (arith, a, b, rest)

module _ (plan : List Line) (ks : Chains) (c : Stamp) (lo f : ℕ) where
  abbrev here_counted : ℕ → ℕ
  here_counted i = count_in plan c lo f (slice_get ks i)

  pub among_more : (xs : List ℕ) (i x : ℕ) → i < length xs → slice_index_or xs i 0 ≡ x
      → count_among plan ks c lo f (take (i + 1) xs) ≡ count_among plan ks c lo f (take i xs) + count_in plan c lo f (slice_get ks x)
  among_more xs i x lt is = sum_by_more here_counted xs i 0 lt ∙ ap (λ y. count_among plan ks c lo f (take i xs) + here_counted y) is

  pub among_some : (xs : List ℕ) (i : ℕ) → count_among plan ks c lo f (take i xs) ≤ count_among plan ks c lo f xs
  among_some xs i = sum_by-take-le here_counted xs i

  pub loops_more : (n i : ℕ) → n ≤ i
      → count_among plan ks c lo f (range_with_len n (i + 1 - n)) ≡ count_among plan ks c lo f (range_with_len n (i - n)) + count_in plan c lo f (slice_get ks i)
  loops_more n i le =
      let more : i + 1 - n ≡ (i - n) + 1 = omega (arith, le) in
      ap (λ m. count_among plan ks c lo f (range_with_len n m)) more
      ∙ (ap (count_among plan ks c lo f) (range_more n (i - n) i (omega (arith, le))) ∙ sum_by_push here_counted (range_with_len n (i - n)) i)

  pub loops_some : (n i m : ℕ) → i ≤ m → count_among plan ks c lo f (range_with_len n (i - n)) ≤ count_among plan ks c lo f (range_with_len n (m - n))
  loops_some n i m le = further here_counted n (i - n) (m - n) (omega (arith, le))

-- WHAT IS STEPPED
pushed : (pre : Chains) (x : K) (xs : Chains) → (pre ++ x ∷ []) ++ xs ≡ pre ++ x ∷ xs
pushed [] x xs = refl
pushed (k ∷ pre) x xs = ap (λ r. k ∷ r) (pushed pre x xs)

longer : (pre : Chains) (x : K) → length (pre ++ x ∷ []) ≡ length pre + 1
longer [] x = refl
longer (k ∷ pre) x = let r = longer pre x in omega (arith, r)

module _ (plan : List Line) (c : Stamp) (e : ℕ) (h : ℕ → ℕ) where
  abbrev step : Chains → ℕ → Chains
  step ks i = shifted_at plan c e h i ks

  abbrev g : K → K
  g k = shifted plan c e h k

  step_here : (pre : Chains) (k : K) (ks : Chains) (j : ℕ) → length pre ≡ j → shifted_at plan c e h j (pre ++ k ∷ ks) ≡ pre ++ g k ∷ ks
  step_here [] k ks zero is = refl
  step_here [] k ks (suc j) is = absurd (omega (arith, is))
  step_here (p ∷ pre) k ks zero is = absurd (omega (arith, is))
  step_here (p ∷ pre) k ks (suc j) is = ap (λ r. p ∷ r) (step_here pre k ks j (omega (arith, is)))

  step_all : (ks pre : Chains) (s : ℕ) → length pre ≡ s → fold step (pre ++ ks) (range_with_len s (length ks)) ≡ pre ++ map g ks
  step_all [] pre s is = refl
  step_all (k ∷ ks) pre s is =
      let longer' = longer pre (g k) in
      ap (λ js. fold step js (range_with_len (s + 1) (length ks))) (step_here pre k ks s is ∙ sym (pushed pre (g k) ks))
      ∙ (step_all ks (pre ++ g k ∷ []) (s + 1) (omega (arith, longer', is)) ∙ pushed pre (g k) (map g ks))

  step_visited : (t : ℕ → Bool) (ks pre : Chains) (s n m r : ℕ) → length pre ≡ s → s + n ≡ m → length ks ≡ n + r
      → ((i j : ℕ) (k : K) → s + i ≡ j → i < n → slice_get ks i ≡ Some k → t j ≡ false → g k ≡ k)
      → fold step (fold step (pre ++ ks) (filter t (range_with_len s n))) (range_with_len m r) ≡ pre ++ map g ks
  step_visited t ks pre s zero m r is start long none =
      let whole : r ≡ length ks = omega (arith, long) in
      let first : m ≡ s = omega (arith, start) in
      (λ i. fold step (pre ++ ks) (range_with_len (first i) (whole i))) ∙ step_all ks pre s is
  step_visited t [] pre s (suc n) m r is start long none = absurd (omega (arith, long))
  step_visited t (k ∷ ks) pre s (suc n) m r is start long none =
      by (t s) refl
      (λ x. let l = longer pre x in step_visited t ks (pre ++ x ∷ []) (s + 1) n m r (omega (arith, l, is)) (omega (arith, start)) (omega (arith, long))
      (λ i j y e lt at not. none (suc i) j y (omega (arith, e)) (omega (arith, lt)) at not))
    where
      by : (b : Bool) → t s ≡ b → ((x : K) → fold step (fold step ((pre ++ x ∷ []) ++ ks) (filter t (range_with_len (s + 1) n))) (range_with_len m r) ≡ (pre ++ x ∷ []) ++ map g ks)
          → fold step (fold step (pre ++ k ∷ ks) (cond b (s ∷ filter t (range_with_len (s + 1) n)) (filter t (range_with_len (s + 1) n)))) (range_with_len m r) ≡ pre ++ map g (k ∷ ks)
      by true leads rest =
          ap (λ js. fold step (fold step js (filter t (range_with_len (s + 1) n))) (range_with_len m r)) (step_here pre k ks s is ∙ sym (pushed pre (g k) ks))
          ∙ (rest (g k) ∙ pushed pre (g k) (map g ks))
      by false not rest =
          ap (λ js. fold step (fold step js (filter t (range_with_len (s + 1) n))) (range_with_len m r)) (sym (pushed pre k ks))
          ∙ (rest k ∙ (pushed pre k (map g ks) ∙ ap (λ x. pre ++ x ∷ map g ks) (sym (none 0 s k (omega arith) (omega arith) refl not))))

  pub steps_more : (xs : List ℕ) (i x : ℕ) → i < length xs → slice_index_or xs i 0 ≡ x → (ks : Chains)
      → shifted_at plan c e h x (all_shifted_at plan c e h (take i xs) ks) ≡ all_shifted_at plan c e h (take (i + 1) xs) ks
  steps_more xs i x lt is ks = sym (fold_more step ks xs i 0 lt ∙ ap (step (fold step ks (take i xs))) is)

  pub steps_next : (n i : ℕ) → n ≤ i → (ks : Chains)
      → shifted_at plan c e h i (all_shifted_at plan c e h (range_with_len n (i - n)) ks) ≡ all_shifted_at plan c e h (range_with_len n (i + 1 - n)) ks
  steps_next n i le ks =
      let more : i + 1 - n ≡ (i - n) + 1 = omega (arith, le) in
      sym (ap (λ m. fold step ks (range_with_len n m)) more
      ∙ (ap (fold step ks) (range_more n (i - n) i (omega (arith, le))) ∙ fold-append step ks (range_with_len n (i - n)) (i ∷ [])))

  -- the plan has what it had
  if_long : (b : Bool) (gs : Gaps) → length (cond b (changed_from e h gs) gs) ≡ length gs
  if_long true gs = length_changed e h gs
  if_long false gs = refl

  one_of_plan : (k : K) → IsOfPlan plan k → IsOfPlan plan (g k)
  one_of_plan k of some = of (subst (λ n. 0 < n) (if_long (could_test plan c k.0) k.1) some)

  pub step_of_plan : (i : ℕ) (ks : Chains) → AllByRecursion (IsOfPlan plan) ks → AllByRecursion (IsOfPlan plan) (shifted_at plan c e h i ks)
  step_of_plan i [] all = tt
  step_of_plan zero (k ∷ ks) all = (one_of_plan k all.0, all.1)
  step_of_plan (suc i) (k ∷ ks) all = (all.0, step_of_plan i ks all.1)

  pub step_long : (i : ℕ) (ks : Chains) → length (shifted_at plan c e h i ks) ≡ length ks
  step_long i [] = refl
  step_long zero (k ∷ ks) = refl
  step_long (suc i) (k ∷ ks) = ap suc (step_long i ks)

  pub keys_shifted_at : (i : ℕ) (ks : Chains) → keys_of (shifted_at plan c e h i ks) ≡ keys_of ks
  keys_shifted_at i [] = refl
  keys_shifted_at zero (k ∷ ks) = refl
  keys_shifted_at (suc i) (k ∷ ks) = ap (λ js. k.0 ∷ js) (keys_shifted_at i ks)

  changed_is : (ks : Chains) (x : ℕ) → ((k : K) → slice_get ks x ≡ Some k → changed_from e h k.1 ≡ cond (could_test plan c k.0) (changed_from e h k.1) k.1)
      → changed_in e h x ks ≡ shifted_at plan c e h x ks
  changed_is [] x same = refl
  changed_is (k ∷ ks) zero same = ap (λ (g : Gaps). (k.0, g) ∷ ks) (same k refl)
  changed_is (k ∷ ks) (suc x) same = ap (λ r. k ∷ r) (changed_is ks x same)

  pub steps_long : (is : List ℕ) (ks : Chains) → length (all_shifted_at plan c e h is ks) ≡ length ks
  steps_long [] ks = refl
  steps_long (i ∷ is) ks = steps_long is (shifted_at plan c e h i ks) ∙ step_long i ks

-- one that has an epoch from some on
pub some_from : (e : ℕ) (gs : Gaps) → is_some (first_from e gs) ≡ true → 0 < length gs
some_from e [] is = absurd (true≢false (sym is))
some_from e (x ∷ gs) is = omega arith

-- what stands there is of the plan
pub at_of_plan : (plan : List Line) (ks : Chains) → AllByRecursion (IsOfPlan plan) ks → (i : ℕ) (k : K) → slice_get ks i ≡ Some k → IsOfPlan plan k
at_of_plan plan ks each i k at = all_at (IsOfPlan plan) ks each i k at

module _ (plan : List Line) (ks : Chains) (laid : IsLaidOut plan (keys_of ks)) where
  pub all_long : places_of plan ≤ length ks
  all_long = let a = laid_long plan (keys_of ks) laid in let b = long_keys ks in omega (arith, a, b)

  all_of_them : length ks ≡ places_of plan + (length ks - places_of plan)
  all_of_them = let a = all_long in omega (arith, a)

  -- no part of what is counted is more than there is
  pub among_le : (c : Stamp) (lo f : ℕ) (side : Side) (at : ℕ)
      → count_among plan ks c lo f (row plan side at) + count_among plan ks c lo f (range_with_len (places_of plan) (length ks - places_of plan)) ≤ total ks
  among_le c lo f side at =
      let part = sum_some (λ i. count_in plan c lo f (slice_get ks i)) (λ k. cond (could_test plan k.0 c) (within lo f k.1) 0)
      (is_on plan side at) ks 0 (places_of plan) (places_of plan) (length ks - places_of plan) (omega arith) all_of_them
      (λ i j k e at. let same : j ≡ i = omega (arith, e) in ap (λ m. count_in plan c lo f (slice_get ks m)) same ∙ ap (count_in plan c lo f) at) in
      let all = between_le plan ks c lo f in
      omega (arith, part, all)

-- The laws of could-result-in, as td_reach gives them
module _ (plan : List Line) (tested : (p q : Stamp) → IsOf plan p → IsOf plan q → (could_test plan p q ≡ true → Could plan p q) × (Could plan p q → could_test plan p q ≡ true))
    (found : (from to : Place) → HasPlace plan from → HasPlace plan to → (leads_test plan from to ≡ true → Leads plan from to) × (Leads plan from to → leads_test plan from to ≡ true))
    (leads : (p q : Stamp) → Could plan p q → Leads plan p.place q.place) (has_place : (p : Stamp) → IsOf plan p → HasPlace plan p.place)
    (c : Stamp) (of_plan : IsOf plan c) (ks : Chains) (each : AllByRecursion (IsOfPlan plan) ks) (laid : IsLaidOut plan (keys_of ks)) where
  -- no path, so it could not
  no_way : (p q : Stamp) → IsOf plan p → IsOf plan q → leads_test plan p.place q.place ≡ false → could_test plan p q ≡ false
  no_way p q of_p of_q not = by (could_test plan p q) refl
    where
      by : (b : Bool) → could_test plan p q ≡ b → could_test plan p q ≡ false
      by true could = absurd (true≢false (sym ((found p.place q.place (has_place p of_p) (has_place q of_q)).1 (leads p q ((tested p q of_p of_q).0 could))) ∙ not))
      by false is = is

  nothing_counted : (s : Stamp) (gs : Gaps) (lo f : ℕ) → (0 < length gs → IsOf plan s) → leads_test plan s.place c.place ≡ false → cond (could_test plan s c) (within lo f gs) 0 ≡ 0
  nothing_counted s [] lo f of_s not = by (could_test plan s c)
    where
      by : (b : Bool) → cond b (within lo f []) 0 ≡ 0
      by true = refl
      by false = refl
  nothing_counted s (x ∷ gs) lo f of_s not = ap (λ b. cond b (within lo f (x ∷ gs)) 0) (no_way s c (of_s (omega arith)) of_plan not)

  nothing_shifted : (s : Stamp) (gs : Gaps) (e : ℕ) (h : ℕ → ℕ) → (0 < length gs → IsOf plan s) → leads_test plan c.place s.place ≡ false → shifted plan c e h (s, gs) ≡ (s, gs)
  nothing_shifted s [] e h of_s not = by (could_test plan c s)
    where
      by : (b : Bool) → ◌≡◌ {A = K} (s, cond b (changed_from e h []) []) (s, [])
      by true = refl
      by false = refl
  nothing_shifted s (x ∷ gs) e h of_s not = ap (λ b. (s, cond b (changed_from e h (x ∷ gs)) (x ∷ gs))) (no_way c s of_plan (of_s (omega arith)) not)

  abbrev n : ℕ
  n = places_of plan

  here : place_at plan (number_of plan c.place) ≡ c.place
  here = same_place plan c.place (has_place c of_plan)

  long : length ks ≡ n + (length ks - n)
  long = let a = laid_long plan (keys_of ks) laid in let b = long_keys ks in omega (arith, a, b)

  place_is : (i j : ℕ) (k : K) → 0 + i ≡ j → i < n → slice_get ks i ≡ Some k → place_at plan j ≡ k.0.place
  place_is i j k e lt at =
      let same : j ≡ i = omega (arith, e) in
      ap (place_at plan) same ∙ ap (λ (s : Stamp). s.place) (same_stamp (sym (laid i lt) ∙ key_at ks i k at))

  counts_same : (lo f i j : ℕ) (k : K) → 0 + i ≡ j → slice_get ks i ≡ Some k → count_in plan c lo f (slice_get ks j) ≡ cond (could_test plan k.0 c) (within lo f k.1) 0
  counts_same lo f i j k e at =
      let same : j ≡ i = omega (arith, e) in
      ap (λ m. count_in plan c lo f (slice_get ks m)) same ∙ ap (count_in plan c lo f) at

  pub counted_all : (lo f : ℕ)
      → count_among plan ks c lo f (row plan sides.Before (number_of plan c.place)) + count_among plan ks c lo f (range_with_len (places_of plan) (length ks - places_of plan)) ≡ between plan ks c lo f
  counted_all lo f =
      sum_visited (λ i. count_in plan c lo f (slice_get ks i)) (λ k. cond (could_test plan k.0 c) (within lo f k.1) 0)
      (is_on plan sides.Before (number_of plan c.place)) ks 0 n n (length ks - n) (omega arith) long (counts_same lo f)
      (λ i j k e lt at not.
      nothing_counted k.0 k.1 lo f (all_at (IsOfPlan plan) ks each i k at)
      ((λ l. leads_test plan (sym (place_is i j k e lt at) l) (sym here l)) ∙ not))

  pub stepped_all : (e : ℕ) (h : ℕ → ℕ)
      → all_shifted_at plan c e h (range_with_len (places_of plan) (length ks - places_of plan)) (all_shifted_at plan c e h (row plan sides.After (number_of plan c.place)) ks) ≡ map (shifted plan c e h) ks
  stepped_all e h =
      step_visited plan c e h (is_on plan sides.After (number_of plan c.place)) ks [] 0 n n (length ks - n) refl (omega arith) long
      (λ i j k x lt at not.
      nothing_shifted k.0 k.1 e h (all_at (IsOfPlan plan) ks each i k at)
      ((λ l. leads_test plan (sym here l) (sym (place_is i j k x lt at) l)) ∙ not))

-- IN NO LOOP a path is enough
row_by : (t : ℕ → Bool) (s m : ℕ) (rest : List ℕ) → s < m → (b : Bool) → t s ≡ b → (i : ℕ) → i < length (cond b (s ∷ rest) rest)
    → ((j : ℕ) → j < length rest → (t (slice_index_or rest j 0) ≡ true) × (slice_index_or rest j 0 < m))
    → (t (slice_index_or (cond b (s ∷ rest) rest) i 0) ≡ true) × (slice_index_or (cond b (s ∷ rest) rest) i 0 < m)
row_by t s m rest low true is zero lt others = (is, low)
row_by t s m rest low true is (suc j) lt others = others j (omega (arith, lt))
row_by t s m rest low false is j lt others = others j lt

row_at : (t : ℕ → Bool) (s n m i : ℕ) → s + n ≡ m → i < length (filter t (range_with_len s n))
    → (t (slice_index_or (filter t (range_with_len s n)) i 0) ≡ true) × (slice_index_or (filter t (range_with_len s n)) i 0 < m)
row_at t s zero m i end lt = absurd (omega (arith, lt))
row_at t s (suc n) m i end lt =
    row_by t s m (filter t (range_with_len (s + 1) n)) (omega (arith, end)) (t s) refl i lt (λ j l. row_at t (s + 1) n m j (omega (arith, end)) l)

module _ (plan : List Line) (tested : (p q : Stamp) → IsOf plan p → IsOf plan q → (could_test plan p q ≡ true → Could plan p q) × (Could plan p q → could_test plan p q ≡ true))
    (found : (from to : Place) → HasPlace plan from → HasPlace plan to → (leads_test plan from to ≡ true → Leads plan from to) × (Leads plan from to → leads_test plan from to ≡ true))
    (has_place : (p : Stamp) → IsOf plan p → HasPlace plan p.place)
    (enough : (p q : Stamp) → IsOf plan p → IsOf plan q → depth q.time ≡ 0 → p.time.epoch ≤ q.time.epoch → Leads plan p.place q.place → Could plan p q)
    (c : Stamp) (of_plan : IsOf plan c) (ks : Chains) (each : AllByRecursion (IsOfPlan plan) ks) (laid : IsLaidOut plan (keys_of ks)) where
  could_where : (p q : Stamp) → IsOf plan p → IsOf plan q → depth q.time ≡ 0 → p.time.epoch ≤ q.time.epoch → leads_test plan p.place q.place ≡ true → could_test plan p q ≡ true
  could_where p q of_p of_q flat in_time is = (tested p q of_p of_q).1 (enough p q of_p of_q flat in_time ((found p.place q.place (has_place p of_p) (has_place q of_q)).0 is))

  own_place : place_at plan (number_of plan c.place) ≡ c.place
  own_place = same_place plan c.place (has_place c of_plan)

  stands_there : (x : ℕ) (k : K) → x < places_of plan → slice_get ks x ≡ Some k → k.0 ≡ outside plan x
  stands_there x k lt at = same_stamp (sym (key_at ks x k at) ∙ laid x lt)

  abbrev IsIn : Side → ℕ → Type 0
  IsIn side x = (is_on plan side (number_of plan c.place) x ≡ true) × (x < places_of plan)

  in_row : (side : Side) (i x : ℕ) → i < length (row plan side (number_of plan c.place)) → slice_index_or (row plan side (number_of plan c.place)) i 0 ≡ x → IsIn side x
  in_row side i x lt is = subst (IsIn side) is (row_at (is_on plan side (number_of plan c.place)) 0 (places_of plan) (places_of plan) i (omega arith) lt)

  led_there : (lo f x : ℕ) → depth c.time ≡ 0 → IsIn sides.Before x → (k : K) → slice_get ks x ≡ Some k → (gs : Gaps) → (0 < length gs → IsOf plan k.0)
      → within lo f gs ≡ cond (could_test plan k.0 c) (within lo f gs) 0
  led_there lo f x flat member k at [] of = none (could_test plan k.0 c)
    where
      none : (b : Bool) → within lo f [] ≡ cond b (within lo f []) 0
      none true = refl
      none false = refl
  led_there lo f x flat member k at (g ∷ gs) of =
      let there = stands_there x k member.1 at in
      let first = ap (λ (s : Stamp). s.time.epoch) there in
      let leads : leads_test plan k.0.place c.place ≡ true = (λ l. leads_test plan (there l).place (sym own_place l)) ∙ member.0 in
      sym (ap (λ b. cond b (within lo f (g ∷ gs)) 0) (could_where k.0 c (of (omega arith)) of_plan flat (omega (arith, first)) leads))

  pub led_count : (lo f i x : ℕ) → depth c.time ≡ 0 → i < length (row plan sides.Before (number_of plan c.place)) → slice_index_or (row plan sides.Before (number_of plan c.place)) i 0 ≡ x
      → epochs_in lo f (slice_get ks x) ≡ count_in plan c lo f (slice_get ks x)
  led_count lo f i x flat lt is = by (slice_get ks x) refl
    where
      by : (o : Option K) → slice_get ks x ≡ o → epochs_in lo f o ≡ count_in plan c lo f o
      by None at = refl
      by (Some k) at = led_there lo f x flat (in_row sides.Before i x lt is) k at k.1 (all_at (IsOfPlan plan) ks each x k at)

  reached_there : (e : ℕ) (h : ℕ → ℕ) (x : ℕ) → c.time.epoch ≡ 0 → IsIn sides.After x → (k : K) → slice_get ks x ≡ Some k → (gs : Gaps) → (0 < length gs → IsOf plan k.0)
      → changed_from e h gs ≡ cond (could_test plan c k.0) (changed_from e h gs) gs
  reached_there e h x zeroth member k at [] of = none (could_test plan c k.0)
    where
      none : (b : Bool) → ◌≡◌ {A = Gaps} [] (cond b [] [])
      none true = refl
      none false = refl
  reached_there e h x zeroth member k at (g ∷ gs) of =
      let there = stands_there x k member.1 at in
      let flat : depth k.0.time ≡ 0 = ap (λ (s : Stamp). depth s.time) there in
      let leads : leads_test plan c.place k.0.place ≡ true = (λ l. leads_test plan (sym own_place l) (there l).place) ∙ member.0 in
      sym (ap (λ b. cond b (changed_from e h (g ∷ gs)) (g ∷ gs)) (could_where c k.0 of_plan (of (omega arith)) flat (omega (arith, zeroth)) leads))

  pub reached_step : (e : ℕ) (h : ℕ → ℕ) (i x : ℕ) → c.time.epoch ≡ 0 → i < length (row plan sides.After (number_of plan c.place))
      → slice_index_or (row plan sides.After (number_of plan c.place)) i 0 ≡ x → changed_in e h x ks ≡ shifted_at plan c e h x ks
  reached_step e h i x zeroth lt is =
      changed_is plan c e h ks x (λ k at. reached_there e h x zeroth (in_row sides.After i x lt is) k at k.1 (all_at (IsOfPlan plan) ks each x k at))
