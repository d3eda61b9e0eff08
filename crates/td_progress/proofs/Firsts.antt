-- The frontier, from the first of each place and counters.
use Rattle.std.proofs.Common.{length, ◌<◌, ◌≡◌, ℕ, zero, suc, Bool, true, false, cond, List, [], ◌∷◌, Option, Some, None, option_map, unwrap_or, Contains, refl, sym, ap, ◌∙◌, subst, true≢false, arith}
use Rattle.std.specs.List.{AllByRecursion, IsDistinct, cons_option}
use Rattle.std.specs.Map.{keys_of, lookup}
use Rattle.td_plan.specs.Lines.{Line}
use Rattle.td_reach.specs.declared.stamp.Stamp.{Stamp}
use Rattle.td_reach.specs.Paths.{IsOf}
use Rattle.td_progress.specs.Bag.{is_stamp}
use Rattle.td_progress.specs.Held.{at, class_of, chain_at, first_alone, firsts, IsFirst, IsChain}
use Rattle.td_progress.proofs.Same.{Decides-is_stamp, is_stamp-self}
use Rattle.td_progress.proofs.Counted.{none_is_some}
use Rattle.td_progress.proofs.Gaps.{Gaps}
use Rattle.td_progress.proofs.Between.{Chains}
use Rattle.td_progress.proofs.HeldBags.{at_class}
use Rattle.td_progress.proofs.HeldCounts.{other_epoch}

-- at the head of a list or in its rest
at_head : {X : Type 0} (x y : X) (xs : List X) → x ≡ y → Contains (x ∷ xs) y
at_head x y xs e = (0, omega arith, e)

in_rest : {X : Type 0} (x y : X) (xs : List X) → Contains xs y → Contains (x ∷ xs) y
in_rest x y xs h = (suc h.0, (let l = h.1 in omega (arith, l)), h.2)

-- whether two pointstamps are not the same, either way round
apart : (p q : Stamp) → is_stamp p q ≡ false → is_stamp q p ≡ false
apart p q e = by (is_stamp q p) refl
  where
    by : (b : Bool) → is_stamp q p ≡ b → b ≡ false
    by true same = absurd (true≢false (sym (ap (is_stamp p) ((Decides-is_stamp q p).0 same) ∙ is_stamp-self p) ∙ e))
    by false other = refl

-- the chain of what no key is has nothing
no_chain : (c : Stamp) (ks : Chains) → AllByRecursion (λ k. is_stamp c k ≡ false) (keys_of ks) → chain_at c ks ≡ []
no_chain c [] h = refl
no_chain c (k ∷ ks) h = by (is_stamp c k.0) h.0 (no_chain c ks h.1)
  where
    by : (b : Bool) → b ≡ false → chain_at c ks ≡ [] → unwrap_or (cond b (Some k.1) (lookup (is_stamp c) ks)) [] ≡ []
    by true e rest = absurd (true≢false e)
    by false e rest = rest

module _ (p : Stamp) where
  -- in a list whose head's chain is of another place or other counters
  other_chain : (k : Stamp × Gaps) (ks : Chains) → is_stamp (class_of p) k.0 ≡ false → chain_at (class_of p) (k ∷ ks) ≡ chain_at (class_of p) ks
  other_chain k ks e = ap (λ b. unwrap_or (cond b (Some k.1) (lookup (is_stamp (class_of p)) ks)) []) e

  own_chain : (k : Stamp × Gaps) (ks : Chains) → is_stamp (class_of p) k.0 ≡ true → chain_at (class_of p) (k ∷ ks) ≡ k.1
  own_chain k ks e = ap (λ b. unwrap_or (cond b (Some k.1) (lookup (is_stamp (class_of p)) ks)) []) e

  -- the first of a chain is no first of those in which its key is not
  not_of : (k : Stamp) (ks : Chains) → AllByRecursion (λ l. is_stamp k l ≡ false) (keys_of ks) → IsFirst p ks → is_stamp (class_of p) k ≡ false
  not_of k ks others first = by (is_stamp (class_of p) k) refl
    where
      by : (b : Bool) → is_stamp (class_of p) k ≡ b → b ≡ false
      by true same =
          let is : class_of p ≡ k = (Decides-is_stamp (class_of p) k).0 same in
          let none = no_chain (class_of p) ks (subst (λ c. AllByRecursion (λ l. is_stamp c l ≡ false) (keys_of ks)) (sym is) others) in
          absurd (none_is_some (sym (ap first_alone none) ∙ first))
      by false other = refl

module _ (plan : List Line) (count : Stamp → ℕ → ℕ → ℕ) where
  -- ONE OF THE FIRSTS is the first of its place and counters
  pub is_a_first : (p : Stamp) (ks : Chains) → IsDistinct is_stamp (keys_of ks) → AllByRecursion (IsChain plan count) ks → Contains (firsts ks) p → IsFirst p ks
  unfolding IsDistinct
  is_a_first p [] once each h = absurd (let l = h.1 in omega (arith, l))
  is_a_first p (k ∷ ks) once each h = by (first_alone k.1) refl h (is_a_first p ks once.1 each.1)
    where
      later : (Contains (firsts ks) p → IsFirst p ks) → Contains (firsts ks) p → IsFirst p (k ∷ ks)
      later rest g = ap first_alone (other_chain p k ks (not_of p k.0 ks once.0 (rest g))) ∙ rest g

      by : (o : Option ℕ) → first_alone k.1 ≡ o → Contains (cons_option (option_map (λ e. at e k.0) o) (firsts ks)) p → (Contains (firsts ks) p → IsFirst p ks) → IsFirst p (k ∷ ks)
      by None alone g rest = later rest g
      by (Some e) alone (zero, l, is) rest =
          let class : class_of p ≡ k.0 = ap class_of (sym is) ∙ at_class k.0 each.0.class in
          let own = own_chain p k ks ((Decides-is_stamp (class_of p) k.0).1 class) in
          let epoch : e ≡ p.time.epoch = ap (λ (q : Stamp). q.time.epoch) is in
          ap first_alone own ∙ alone ∙ ap Some epoch
      by (Some e) alone (suc i, l, is) rest = later rest (i, omega (arith, l), is)

  pub is_among : (p : Stamp) (ks : Chains) → AllByRecursion (IsChain plan count) ks → IsFirst p ks → Contains (firsts ks) p
  is_among p [] each h = absurd (none_is_some h)
  is_among p (k ∷ ks) each h = by (is_stamp (class_of p) k.0) refl (is_among p ks each.1)
    where
      in_either : (o : Option ℕ) → Contains (firsts ks) p → Contains (cons_option (option_map (λ e. at e k.0) o) (firsts ks)) p
      in_either None g = g
      in_either (Some e) g = in_rest (at e k.0) p (firsts ks) g

      by : (b : Bool) → is_stamp (class_of p) k.0 ≡ b → (IsFirst p ks → Contains (firsts ks) p) → Contains (firsts (k ∷ ks)) p
      by true same rest =
          let class : class_of p ≡ k.0 = (Decides-is_stamp (class_of p) k.0).0 same in
          let alone = sym (ap first_alone (own_chain p k ks same)) ∙ h in
          subst (λ o. Contains (cons_option (option_map (λ e. at e k.0) o) (firsts ks)) p) (sym alone)
          (at_head (at p.time.epoch k.0) p (firsts ks) (ap (at p.time.epoch) (sym class)))
      by false other rest = in_either (first_alone k.1) (rest (sym (ap first_alone (other_chain p k ks other)) ∙ h))

  -- each is of the plan
  pub first_of_plan : (p : Stamp) (ks : Chains) → AllByRecursion (IsChain plan count) ks → Contains (firsts ks) p → IsOf plan p
  first_of_plan p [] each h = absurd (let l = h.1 in omega (arith, l))
  first_of_plan p (k ∷ ks) each h = by (first_alone k.1) refl h (first_of_plan p ks each.1)
    where
      some : (gs : Gaps) (e : ℕ) → first_alone gs ≡ Some e → 0 < length gs
      some [] e is = absurd (none_is_some is)
      some (g ∷ gs) e is = omega arith

      by : (o : Option ℕ) → first_alone k.1 ≡ o → Contains (cons_option (option_map (λ e. at e k.0) o) (firsts ks)) p → (Contains (firsts ks) p → IsOf plan p) → IsOf plan p
      by None none g rest = rest g
      by (Some e) alone (zero, l, is) rest = subst (IsOf plan) is (other_epoch plan k.0 e (each.0.of_plan (some k.1 e alone)))
      by (Some e) alone (suc i, l, is) rest = rest (i, omega (arith, l), is)

  -- and stands there once
  apart_from : (k : Stamp) (e : ℕ) → k.time.epoch ≡ 0 → (ks : Chains) → AllByRecursion (IsChain plan count) ks → AllByRecursion (λ l. is_stamp k l ≡ false) (keys_of ks)
      → AllByRecursion (λ q. is_stamp (at e k) q ≡ false) (firsts ks)
  apart_from k e zeroth [] each others = tt
  apart_from k e zeroth (l ∷ ks) each others = by (first_alone l.1) (apart_from k e zeroth ks each.1 others.1)
    where
      differ : (f : ℕ) (b : Bool) → is_stamp (at e k) (at f l.0) ≡ b → b ≡ false
      differ f true same =
          let classes : k ≡ l.0 = sym (at_class k zeroth) ∙ (ap class_of ((Decides-is_stamp (at e k) (at f l.0)).0 same) ∙ at_class l.0 each.0.class) in
          absurd (true≢false (sym ((Decides-is_stamp k l.0).1 classes) ∙ others.0))
      differ f false other = refl

      by : (o : Option ℕ) → AllByRecursion (λ q. is_stamp (at e k) q ≡ false) (firsts ks) → AllByRecursion (λ q. is_stamp (at e k) q ≡ false) (cons_option (option_map (λ f. at f l.0) o) (firsts ks))
      by None rest = rest
      by (Some f) rest = (differ f (is_stamp (at e k) (at f l.0)) refl, rest)

  pub firsts_once : (ks : Chains) → IsDistinct is_stamp (keys_of ks) → AllByRecursion (IsChain plan count) ks → IsDistinct is_stamp (firsts ks)
  unfolding IsDistinct
  firsts_once [] once each = tt
  firsts_once (k ∷ ks) once each = by (first_alone k.1) (firsts_once ks once.1 each.1)
    where
      by : (o : Option ℕ) → IsDistinct is_stamp (firsts ks) → IsDistinct is_stamp (cons_option (option_map (λ f. at f k.0) o) (firsts ks))
      by None rest = rest
      by (Some e) rest = (apart_from k.0 e each.0.class ks each.1 once.0, rest)
