-- What is held of precursor counts is what the definitions say.
use Rattle.std.proofs.Common.{◌≡◌, ℕ, zero, suc, ◌+◌, ◌-◌, ◌<◌, ◌≤◌, Bool, true, false, not, ◌&&◌, ◌==◌, cond, List, [], ◌∷◌, length, filter, slice_get, Option, Some, None, is_some, unwrap_or, Contains, refl, sym, ap, ◌∙◌, subst, true≢false, arith, nat_le}
use Rattle.std.proofs.lemmas.Bool.{eqb-true}
use Rattle.std.proofs.lemmas.List.Sums.{sum_by-cons, sum_by-append, length-filter}
use Rattle.std.specs.List.{AllByRecursion, count_by}
use Rattle.std.specs.Map.{lookup}
use Rattle.std.specs.Option.{IfSome}
use Rattle.std.specs.BTreeMap.{is_at}
use Rattle.std.specs.Ordering.{nat_cmp}
use Rattle.td_plan.specs.Lines.{Line}
use Rattle.td_reach.specs.declared.stamp.Stamp.{Stamp}
use Rattle.td_plan.specs.declared.vertex.Loop.{Loop}
use Rattle.td_plan.specs.Blocks.{read_loops_at}
use Rattle.td_reach.specs.declared.stamp.Place.{Place}
use Rattle.td_reach.specs.declared.stamp.Place.TheVariants as places
use Rattle.td_reach.specs.Paths.{IsOf, IsOfPlace, HasDepth, Could}
use Rattle.td_reach.specs.Tables.{could_test}
use Rattle.td_reach.specs.Frontier.{Frontier, IsFree, IsPrecursor, Precursors}
use Rattle.td_progress.specs.Bag.{is_stamp, occurrences}
use Rattle.td_progress.specs.Gaps.{Mark, has_epoch, within, sum_to, with_epoch, AreGaps}
use Rattle.td_progress.specs.Held.{at, class_of, held, total, between, with_stamp, chain_at, count_of, first_alone, IsFirst, IsOfPlan, IsChain, AreHeld}
use Rattle.td_progress.proofs.Same.{Decides-is_stamp}
use Rattle.td_progress.proofs.Counted.{one, none_is_some, occurrences-cons, occurs, stands}
use Rattle.td_progress.proofs.Free.{all-has, has-all, all-append}
use Rattle.td_progress.proofs.Gaps.{Gaps, sum_is, has_above, at_is, is_at_same, is_le}
use Rattle.td_progress.proofs.Between.{Chains, HasEpoch, between-cons, between_le, between_splits}
use Rattle.td_progress.proofs.HeldBags.{stamps_of, occurs_held}
use Rattle.td_progress.proofs.Could.{could_in}

pub one_is : (b : Bool) → 0 < one b → b ≡ true
one_is true h = refl
one_is false h = absurd (omega (arith, h))

-- the first of a chain, with a gap of one
alone_is : (g : ℕ × Mark) (gs : Gaps) (e : ℕ) → first_alone (g ∷ gs) ≡ Some e → (g.0 ≡ e) × (g.1.gap ≡ 1)
alone_is g gs e h = by (g.1.gap == 1) refl h
  where
    by : (b : Bool) → (g.1.gap == 1) ≡ b → cond b (Some g.0) None ≡ Some e → (g.0 ≡ e) × (g.1.gap ≡ 1)
    by true only s = (ap (λ o. unwrap_or o g.0) s, eqb-true g.1.gap 1 only)
    by false more s = absurd (none_is_some s)

is_alone : (g : ℕ × Mark) (gs : Gaps) (e : ℕ) → g.0 ≡ e → g.1.gap ≡ 1 → first_alone (g ∷ gs) ≡ Some e
is_alone g gs e same only = (λ i. cond (only i == 1) (Some (same i)) None)

-- another epoch, and still of the plan
pub other_epoch : (plan : List Line) (p : Stamp) (e : ℕ) → IsOf plan p → IsOf plan (at e p)
other_epoch plan p e h = by p.place h
  where
    by : (place : Place) → IsOfPlace plan place p.time → IsOfPlace plan place (record { epoch = e; turns = p.time.turns })
    by (places.Vertex v) k = k
    by (places.Edge f) k = (k.0, k.1, deep (read_loops_at plan k.0.source) k.2)
      where
        deep : (o : Option (List Loop)) → HasDepth plan o p.time → HasDepth plan o (record { epoch = e; turns = p.time.turns })
        deep None d = d
        deep (Some loops) d = d

-- each that is held is of the plan
pub all_of_plan : (plan : List Line) (count : Stamp → ℕ → ℕ → ℕ) (ks : Chains) → AllByRecursion (IsChain plan count) ks → AllByRecursion (IsOf plan) (held ks)
all_of_plan plan count [] h = tt
all_of_plan plan count (k ∷ ks) h = all-append (IsOf plan) (stamps_of k.0 k.1) (held ks) (own k.1 h.0.of_plan) (all_of_plan plan count ks h.1)
  where
    own : (gs : Gaps) → (0 < length gs → IsOf plan k.0) → AllByRecursion (IsOf plan) (stamps_of k.0 gs)
    own [] of_plan = tt
    own (g ∷ gs) of_plan = (other_epoch plan k.0 g.0 (of_plan (omega arith)), own gs (λ l. of_plan (omega arith)))

pub keys_of_plan : (plan : List Line) (count : Stamp → ℕ → ℕ → ℕ) (ks : Chains) → AllByRecursion (IsChain plan count) ks → AllByRecursion (IsOfPlan plan) ks
keys_of_plan plan count [] h = tt
keys_of_plan plan count (k ∷ ks) h = (h.0.of_plan, keys_of_plan plan count ks h.1)

-- how many are held that could result in a pointstamp
count_cons : {X : Type 0} (test : X → Bool) (x : X) (xs : List X) → count_by test (x ∷ xs) ≡ one (test x) + count_by test xs
count_cons test x xs = sum_by-cons (λ y. one (test y)) x xs

module _ (plan : List Line) (p : Stamp) where
  abbrev could_be : Stamp → Bool
  could_be q = could_test plan q p

  in_chain : (k : Stamp) → k.time.epoch ≡ 0 → (gs : Gaps) → count_by could_be (stamps_of k gs) ≡ cond (could_test plan k (class_of p)) (within 0 p.time.epoch gs) 0
  in_chain k class [] = by (could_test plan k (class_of p))
    where
      by : (b : Bool) → ◌≡◌ {A = ℕ} 0 (cond b 0 0)
      by true = refl
      by false = refl
  in_chain k class (g ∷ gs) =
      count_cons could_be (at g.0 k) (stamps_of k gs)
      ∙ ap (λ b. one b + count_by could_be (stamps_of k gs)) (could_in plan g.0 k p class)
      ∙ by (could_test plan k (class_of p)) (in_chain k class gs)
    where
      no : (b : Bool) → one (b && false) ≡ 0
      no true = refl
      no false = refl

      yes : (b : Bool) → one (b && true) ≡ one b
      yes true = refl
      yes false = refl

      by : (b : Bool) → count_by could_be (stamps_of k gs) ≡ cond b (within 0 p.time.epoch gs) 0
          → one (nat_le g.0 p.time.epoch && b) + count_by could_be (stamps_of k gs) ≡ cond b (within 0 p.time.epoch (g ∷ gs)) 0
      by true rest =
          let a = sum_by-cons (λ (h : ℕ × Mark). one (nat_le 0 h.0 && nat_le h.0 p.time.epoch)) g gs in
          let b = yes (nat_le g.0 p.time.epoch) in
          let low : one (nat_le 0 g.0 && nat_le g.0 p.time.epoch) ≡ one (nat_le g.0 p.time.epoch) = ap (λ b. one (b && nat_le g.0 p.time.epoch)) (is_le 0 g.0 (omega arith)) in
          let whole : within 0 p.time.epoch (g ∷ gs) ≡ one (nat_le 0 g.0 && nat_le g.0 p.time.epoch) + within 0 p.time.epoch gs = a in
          omega (arith, b, low, whole, rest)
      by false rest = let b = no (nat_le g.0 p.time.epoch) in omega (arith, b, rest)

  pub counted : (count : Stamp → ℕ → ℕ → ℕ) (ks : Chains) → AllByRecursion (IsChain plan count) ks → count_by could_be (held ks) ≡ between plan ks (class_of p) 0 p.time.epoch
  counted count [] h = refl
  counted count (k ∷ ks) h =
      let a = sum_by-append (λ q. one (could_be q)) (stamps_of k.0 k.1) (held ks) in
      let b = in_chain k.0 h.0.class k.1 in
      let c = between-cons plan k ks (class_of p) 0 p.time.epoch in
      let rest = counted count ks h.1 in
      omega (arith, a, b, c, rest)

-- a list without the pointstamp itself
module _ (p : Stamp) (test : Stamp → Bool) where
  abbrev others : Stamp → Bool
  others q = test q && not (is_stamp p q)

  others_count : (xs : List Stamp) → test p ≡ true → count_by others xs + occurrences p xs ≡ count_by test xs
  others_count [] itself = refl
  others_count (x ∷ xs) itself =
      let a = count_cons others x xs in
      let b = occurrences-cons p x xs in
      let c = count_cons test x xs in
      let here = by (is_stamp p x) refl in
      let rest = others_count xs itself in
      omega (arith, a, b, c, here, rest)
    where
      plain : (b : Bool) → one (b && true) + 0 ≡ one b
      plain true = refl
      plain false = refl

      only : (b : Bool) → b ≡ true → one (b && false) + 1 ≡ one b
      only true e = refl
      only false e = absurd (true≢false (sym e))

      by : (b : Bool) → is_stamp p x ≡ b → one (test x && not b) + one b ≡ one (test x)
      by true same = only (test x) (ap test (sym ((Decides-is_stamp p x).0 same)) ∙ itself)
      by false apart = plain (test x)

-- a filter has what passes, as often
filter_occurs : (test : Stamp → Bool) (q : Stamp) (xs : List Stamp) → occurrences q (filter test xs) ≡ cond (test q) (occurrences q xs) 0
filter_occurs test q [] = by (test q)
  where
    by : (b : Bool) → ◌≡◌ {A = ℕ} 0 (cond b 0 0)
    by true = refl
    by false = refl
filter_occurs test q (x ∷ xs) = by (is_stamp q x) refl (test x) refl (filter_occurs test q xs)
  where
    more : (b : Bool) (n m : ℕ) → m ≡ n → cond b n 0 ≡ cond b m 0
    more b n m e = ap (λ k. cond b k 0) (sym e)

    by : (a : Bool) → is_stamp q x ≡ a → (b : Bool) → test x ≡ b → occurrences q (filter test xs) ≡ cond (test q) (occurrences q xs) 0
        → occurrences q (cond b (x ∷ filter test xs) (filter test xs)) ≡ cond (test q) (occurrences q (x ∷ xs)) 0
    by true same true passes rest =
        let is : test q ≡ true = ap test ((Decides-is_stamp q x).0 same) ∙ passes in
        let a = occurrences-cons q x (filter test xs) ∙ ap (λ b. one b + occurrences q (filter test xs)) same in
        let b = occurrences-cons q x xs ∙ ap (λ b. one b + occurrences q xs) same in
        let c = rest ∙ ap (λ b. cond b (occurrences q xs) 0) is in
        let d = ap (λ b. cond b (occurrences q (x ∷ xs)) 0) is in
        omega (arith, a, b, c, d)
    by true same false fails rest =
        let is : test q ≡ false = ap test ((Decides-is_stamp q x).0 same) ∙ fails in
        rest ∙ ap (λ b. cond b (occurrences q xs) 0) is ∙ sym (ap (λ b. cond b (occurrences q (x ∷ xs)) 0) is)
    by false apart true passes rest =
        let a = occurrences-cons q x (filter test xs) ∙ ap (λ b. one b + occurrences q (filter test xs)) apart in
        let b = occurrences-cons q x xs ∙ ap (λ b. one b + occurrences q xs) apart in
        omega (arith, a, rest) ∙ more (test q) (occurrences q xs) (occurrences q (x ∷ xs)) (omega (arith, b))
    by false apart false fails rest =
        let b = occurrences-cons q x xs ∙ ap (λ b. one b + occurrences q xs) apart in
        rest ∙ more (test q) (occurrences q xs) (occurrences q (x ∷ xs)) (omega (arith, b))

-- what occurs once stands at one place
some_same : {x y : Stamp} → Some x ≡ Some y → x ≡ y
some_same {x} e = ap (λ o. unwrap_or o x) e

within_list : (xs : List Stamp) (i : ℕ) (q : Stamp) → slice_get xs i ≡ Some q → 0 < occurrences q xs
within_list [] i q at = absurd (none_is_some at)
within_list (x ∷ xs) zero q at = let a = occurrences-cons q x xs ∙ ap (λ b. one b + occurrences q xs) ((Decides-is_stamp q x).1 (sym (some_same at))) in omega (arith, a)
within_list (x ∷ xs) (suc i) q at = let a = occurrences-cons q x xs in let b = within_list xs i q at in omega (arith, a, b)

one_place : (xs : List Stamp) (i j : ℕ) (q : Stamp) → occurrences q xs ≤ 1 → slice_get xs i ≡ Some q → slice_get xs j ≡ Some q → i ≡ j
one_place [] i j q few at there = absurd (none_is_some at)
one_place (x ∷ xs) zero zero q few at there = refl
one_place (x ∷ xs) zero (suc j) q few at there =
    let a = occurrences-cons q x xs ∙ ap (λ b. one b + occurrences q xs) ((Decides-is_stamp q x).1 (sym (some_same at))) in
    let b = within_list xs j q there in
    absurd (omega (arith, a, b, few))
one_place (x ∷ xs) (suc i) zero q few at there =
    let a = occurrences-cons q x xs ∙ ap (λ b. one b + occurrences q xs) ((Decides-is_stamp q x).1 (sym (some_same there))) in
    let b = within_list xs i q at in
    absurd (omega (arith, a, b, few))
one_place (x ∷ xs) (suc i) (suc j) q few at there = let a = occurrences-cons q x xs in ap suc (one_place xs i j q (omega (arith, a, few)) at there)

small_one : (b : Bool) → one b ≤ 1
small_one true = omega arith
small_one false = omega arith

if_passes : (b : Bool) (n : ℕ) → 0 < cond b n 0 → (b ≡ true) × (0 < n)
if_passes true n h = (refl, h)
if_passes false n h = absurd (omega (arith, h))

both_true : (a b : Bool) → (a && not b) ≡ true → (a ≡ true) × (b ≡ false)
both_true true true e = absurd (true≢false (sym e))
both_true true false e = (refl, refl)
both_true false b e = absurd (true≢false (sym e))

not_true : (b : Bool) → (b ≡ true → ⊥) → b ≡ false
not_true true h = absurd (h refl)
not_true false h = refl

-- The laws of could-result-in, as td_reach gives them
module _ (plan : List Line) (tested : (p q : Stamp) → IsOf plan p → IsOf plan q → (could_test plan p q ≡ true → Could plan p q) × (Could plan p q → could_test plan p q ≡ true))
    (reflexive : (p : Stamp) → IsOf plan p → Could plan p p) (ks : Chains) (kept : AreHeld plan ks) (p : Stamp) (of_plan : IsOf plan p) where
  abbrev count : Stamp → ℕ → ℕ → ℕ
  count = between plan ks

  abbrev chain : Gaps
  chain = chain_at (class_of p) ks

  itself : could_test plan p p ≡ true
  itself = (tested p p of_plan of_plan).1 (reflexive p of_plan)

  class_itself : could_test plan (class_of p) (class_of p) ≡ true
  class_itself = (let o = other_epoch plan p 0 of_plan in (tested (class_of p) (class_of p) o o).1 (reflexive (class_of p) o))

  -- the chain is a kept one
  chain_gaps : AreGaps (count (class_of p)) 0 chain
  chain_gaps = in_them ks kept.each
    where
      in_them : (js : Chains) → AllByRecursion (IsChain plan count) js → AreGaps (count (class_of p)) 0 (chain_at (class_of p) js)
      in_them [] h = tt
      in_them (k ∷ js) h = by (is_stamp (class_of p) k.0) refl (in_them js h.1)
        where
          by : (b : Bool) → is_stamp (class_of p) k.0 ≡ b → AreGaps (count (class_of p)) 0 (chain_at (class_of p) js) → AreGaps (count (class_of p)) 0 (unwrap_or (cond b (Some k.1) (lookup (is_stamp (class_of p)) js)) [])
          by true same rest = subst (λ s. AreGaps (count s) 0 k.1) (sym ((Decides-is_stamp (class_of p) k.0).0 same)) h.0.gaps
          by false apart rest = rest

  pub active_once : occurrences p (held ks) ≡ one (has_epoch p.time.epoch chain)
  active_once = occurs_held plan count p ks kept.once kept.each

  all_count : HasEpoch p.time.epoch chain → sum_to p.time.epoch chain ≡ count_by (could_be plan p) (held ks)
  all_count there =
      sum_is (count (class_of p)) (between_splits plan ks (class_of p)) p.time.epoch 0 chain there chain_gaps
      ∙ sym (counted plan p count ks kept.each)

  abbrev precursors_of : List Stamp
  precursors_of = filter (others p (could_be plan p)) (held ks)

  without_itself : HasEpoch p.time.epoch chain → suc (length precursors_of) ≡ sum_to p.time.epoch chain
  without_itself there =
      let a = length-filter (others p (could_be plan p)) (held ks) in
      let b = others_count p (could_be plan p) (held ks) itself in
      let c = active_once ∙ ap one there in
      let d = all_count there in
      omega (arith, a, b, c, d)

  pub sum_bounds : HasEpoch p.time.epoch chain → (0 < sum_to p.time.epoch chain) × (sum_to p.time.epoch chain ≤ total ks)
  sum_bounds there =
      let a = without_itself there in
      let b = sum_is (count (class_of p)) (between_splits plan ks (class_of p)) p.time.epoch 0 chain there chain_gaps in
      let c = between_le plan ks (class_of p) 0 p.time.epoch in
      (omega (arith, a), omega (arith, b, c))

  held_of_plan : (q : Stamp) → Contains (held ks) q → IsOf plan q
  held_of_plan q at = all-has (IsOf plan) (held ks) q (all_of_plan plan count ks kept.each) at

  is_precursor : (q : Stamp) → Contains precursors_of q → IsPrecursor plan (held ks) p q
  is_precursor q at =
      let a = subst (λ n. 0 < n) (filter_occurs (others p (could_be plan p)) q (held ks)) (occurs q precursors_of at) in
      let b = if_passes _ _ a in
      let c = both_true _ _ b.0 in
      let there = stands q (held ks) b.1 in
      (there, λ same. true≢false (sym ((Decides-is_stamp p q).1 (sym same)) ∙ c.1), (tested q p (held_of_plan q there) of_plan).0 c.0)

  in_precursors : (q : Stamp) → IsPrecursor plan (held ks) p q → Contains precursors_of q
  in_precursors q h =
      let could = (tested q p (held_of_plan q h.0) of_plan).1 h.2 in
      let apart = not_true (is_stamp p q) (λ same. h.1 (sym ((Decides-is_stamp p q).0 same))) in
      let passes : others p (could_be plan p) q ≡ true = (λ i. could i && not (apart i)) in
      let a = filter_occurs (others p (could_be plan p)) q (held ks) ∙ ap (λ b. cond b (occurrences q (held ks)) 0) passes in
      let b = occurs q (held ks) h.0 in
      stands q precursors_of (subst (λ n. 0 < n) (sym a) b)

  few : (q : Stamp) → occurrences q (held ks) ≤ 1
  few q = let a = occurs_held plan count q ks kept.once kept.each in let b = small_one (has_epoch q.time.epoch (chain_at (class_of q) ks)) in omega (arith, a, b)

  few_passed : (q : Stamp) → occurrences q precursors_of ≤ 1
  few_passed q = subst (λ n. n ≤ 1) (sym (filter_occurs (others p (could_be plan p)) q (held ks))) (by (others p (could_be plan p) q))
    where
      by : (b : Bool) → cond b (occurrences q (held ks)) 0 ≤ 1
      by true = few q
      by false = omega arith

  pub are_precursors : HasEpoch p.time.epoch chain → Precursors plan (held ks) p (sum_to p.time.epoch chain - 1)
  are_precursors there = record {
    each = precursors_of;
    all = λ q. (is_precursor q, in_precursors q);
    once = λ i j q at there'. one_place precursors_of i j q (few_passed q) at there';
    count = (let a = without_itself there in omega (arith, a));
  }

  -- first of its chain with a gap of one: no other could result in it
  free_if_one : sum_to p.time.epoch chain ≡ 1 → HasEpoch p.time.epoch chain → IsFree plan (held ks) p
  free_if_one one_only there = has-all _ (held ks) (λ q at apart could. nothing precursors_of (let a = without_itself there in omega (arith, a, one_only)) q (in_precursors q (at, apart, could)))
    where
      nothing : (xs : List Stamp) → length xs ≡ 0 → (q : Stamp) → Contains xs q → ⊥
      nothing xs none q at = omega (arith, none, at.1)

  pub first_is_free : IsFirst p ks → Frontier plan (held ks) p
  first_is_free first = by chain refl chain_gaps
    where
      by : (gs : Gaps) → chain ≡ gs → AreGaps (count (class_of p)) 0 gs → Frontier plan (held ks) p
      by [] is gaps = absurd (none_is_some (sym (ap first_alone is) ∙ first))
      by (g ∷ gs) is gaps =
          let alone = alone_is g gs p.time.epoch (sym (ap first_alone is) ∙ first) in
          let here : is_at (nat_cmp p.time.epoch) g.0 ≡ true = is_at_same p.time.epoch g.0 (sym alone.0) in
          let there : HasEpoch p.time.epoch chain = ap (has_epoch p.time.epoch) is ∙ ap (λ b. is_some (cond b (Some g.1) (lookup (is_at (nat_cmp p.time.epoch)) gs))) here in
          let s = sum_is (count (class_of p)) (between_splits plan ks (class_of p)) p.time.epoch 0 chain there chain_gaps in
          let e = ap (λ x. count (class_of p) 0 x) alone.0 in
          let n = alone.1 in
          let active = active_once ∙ ap one there in
          record { is_active = stands p (held ks) (omega (arith, active)); is_free = free_if_one (omega (arith, s, e, n, gaps.1)) there }

  pub free_is_first : Frontier plan (held ks) p → IsFirst p ks
  free_is_first frontier = by chain refl chain_gaps
    where
      active : 0 < occurrences p (held ks)
      active = occurs p (held ks) frontier.is_active

      there : HasEpoch p.time.epoch chain
      there = one_is _ (subst (λ n. 0 < n) active_once active)

      no_others : length precursors_of ≡ 0
      no_others = none precursors_of (λ q at. let h = is_precursor q at in all-has _ (held ks) q frontier.is_free h.0 h.1 h.2)
        where
          none : (xs : List Stamp) → ((q : Stamp) → Contains xs q → ⊥) → length xs ≡ 0
          none [] h = refl
          none (x ∷ xs) h = absurd (h x (0, omega arith, refl))

      by : (gs : Gaps) → chain ≡ gs → AreGaps (count (class_of p)) 0 gs → IsFirst p ks
      by [] is gaps = absurd (true≢false (sym there ∙ ap (has_epoch p.time.epoch) is))
      by (g ∷ gs) is gaps = at_first (is_at (nat_cmp p.time.epoch) g.0) refl
        where
          first : Stamp
          first = at g.0 p

          has : has_epoch g.0 (chain_at (class_of first) ks) ≡ true
          has = ap (has_epoch g.0) is ∙ ap (λ b. is_some (cond b (Some g.1) (lookup (is_at (nat_cmp g.0)) gs))) (is_at_same g.0 g.0 refl)

          first_there : Contains (held ks) first
          first_there = stands first (held ks) (let a = occurs_held plan count first ks kept.once kept.each ∙ ap one has in omega (arith, a))

          at_first : (b : Bool) → is_at (nat_cmp p.time.epoch) g.0 ≡ b → IsFirst p ks
          at_first true same =
              let e = at_is p.time.epoch g.0 same in
              let s = sum_is (count (class_of p)) (between_splits plan ks (class_of p)) p.time.epoch 0 chain there chain_gaps in
              let w = without_itself there in
              let x = ap (λ y. count (class_of p) 0 y) e in
              let n : g.1.gap ≡ 1 = omega (arith, s, w, x, no_others, gaps.1) in
              ap first_alone is ∙ is_alone g gs p.time.epoch (sym e) n
          at_first false apart =
              let later : HasEpoch p.time.epoch gs = sym (ap (λ b. is_some (cond b (Some g.1) (lookup (is_at (nat_cmp p.time.epoch)) gs))) apart) ∙ sym (ap (has_epoch p.time.epoch) is) ∙ there in
              let above = has_above (count (class_of p)) p.time.epoch (suc g.0) gs gaps.2 later in
              let could : could_test plan first p ≡ true =
              could_in plan g.0 (class_of p) p refl ∙ (λ i. is_le g.0 p.time.epoch (omega (arith, above)) i && class_itself i) in
              absurd (all-has _ (held ks) first frontier.is_free first_there (λ same. let e = ap (λ s. s.time.epoch) same in omega (arith, e, above))
              ((tested first p (other_epoch plan p g.0 of_plan) of_plan).0 could))

-- the places and counters, with another
pub keys_with : (plan : List Line) (ks : Chains) → AreHeld plan ks → (p : Stamp) → IsOf plan p → (n : Mark) → AllByRecursion (IsOfPlan plan) (with_stamp (class_of p) p.time.epoch n ks)
keys_with plan ks kept p of_plan n = along ks (keys_of_plan plan (between plan ks) ks kept.each)
  where
    of_class : IsOf plan (class_of p)
    of_class = other_epoch plan p 0 of_plan

    along : (js : Chains) → AllByRecursion (IsOfPlan plan) js → AllByRecursion (IsOfPlan plan) (with_stamp (class_of p) p.time.epoch n js)
    along [] h = (λ l. of_class, tt)
    along (k ∷ js) h = by (is_stamp (class_of p) k.0) refl (along js h.1)
      where
        by : (b : Bool) → is_stamp (class_of p) k.0 ≡ b → AllByRecursion (IsOfPlan plan) (with_stamp (class_of p) p.time.epoch n js)
            → AllByRecursion (IsOfPlan plan) (cond b ((k.0, with_epoch p.time.epoch n k.1) ∷ js) (k ∷ with_stamp (class_of p) p.time.epoch n js))
        by true same rest = (λ l. subst (IsOf plan) ((Decides-is_stamp (class_of p) k.0).0 same) of_class, h.1)
        by false apart rest = (h.0, rest)

-- what is answered of a pointstamp that is held
module _ (plan : List Line) (tested : (p q : Stamp) → IsOf plan p → IsOf plan q → (could_test plan p q ≡ true → Could plan p q) × (Could plan p q → could_test plan p q ≡ true))
    (reflexive : (p : Stamp) → IsOf plan p → Could plan p p) (ks : Chains) (kept : AreHeld plan ks) (p : Stamp) (of_plan : IsOf plan p) where
  abbrev in_chain_of : Bool
  in_chain_of = has_epoch p.time.epoch (chain_at (class_of p) ks)

  held_once : occurrences p (held ks) ≡ one in_chain_of
  held_once = active_once plan tested reflexive ks kept p of_plan

  pub none_if_gone : occurrences p (held ks) ≡ 0 → count_of p ks ≡ None
  none_if_gone gone = by in_chain_of (sym held_once ∙ gone)
    where
      by : (b : Bool) → one b ≡ 0 → cond b (Some (sum_to p.time.epoch (chain_at (class_of p) ks) - 1)) None ≡ None
      by true h = absurd (omega (arith, h))
      by false h = refl

  pub gone_if_none : count_of p ks ≡ None → occurrences p (held ks) ≡ 0
  gone_if_none none = held_once ∙ by in_chain_of none
    where
      by : (b : Bool) → cond b (Some (sum_to p.time.epoch (chain_at (class_of p) ks) - 1)) None ≡ None → one b ≡ 0
      by true h = absurd (none_is_some (sym h))
      by false h = refl

  pub if_counted : IfSome (count_of p ks) (Precursors plan (held ks) p)
  if_counted = by in_chain_of refl
    where
      by : (b : Bool) → in_chain_of ≡ b → IfSome (cond b (Some (sum_to p.time.epoch (chain_at (class_of p) ks) - 1)) None) (Precursors plan (held ks) p)
      by true there = are_precursors plan tested reflexive ks kept p of_plan there
      by false gone = tt
