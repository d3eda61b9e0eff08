-- Of the pointstamps that occur each is held once: what is told of those held holds of those that occur.
use Rattle.std.proofs.Common.{◌≡◌, ℕ, zero, suc, ◌<◌, cond, List, Option, Some, None, Contains, refl, sym, ap, ◌∙◌, subst, arith, nat_lt}
use Rattle.std.proofs.lemmas.Bool.Decides.{nat_tests}
use Rattle.std.specs.Option.{IfSome}
use Rattle.td_plan.specs.Lines.{Line}
use Rattle.td_reach.specs.declared.stamp.Stamp.{Stamp}
use Rattle.td_reach.specs.Frontier.{Frontier, Precursors}
use Rattle.td_progress.specs.Bag.{occurrences}
use Rattle.td_progress.specs.Held.{held, count_of}
use Rattle.td_progress.proofs.Counted.{occurs, stands}
use Rattle.td_progress.proofs.Free.{all-has, has-all}
use Rattle.td_progress.proofs.Between.{Chains}

abbrev pub mark : ℕ → ℕ
mark n = cond (nat_lt 0 n) 1 0

pub mark_some : (n : ℕ) → 0 < n → mark n ≡ 1
mark_some n h = grind (arith, nat_tests)

pub mark_none : (n : ℕ) → n ≡ 0 → mark n ≡ 0
mark_none n h = ap mark h

-- of the pointstamps that occur in a list each is held once
abbrev pub AreMarked : Chains → List Stamp → Type 0
AreMarked ks xs = (p : Stamp) → occurrences p (held ks) ≡ mark (occurrences p xs)

-- What is held is what occurs
module _ (plan : List Line) (ks : Chains) (xs : List Stamp) (h : AreMarked ks xs) where
  pub not_held : (p : Stamp) → occurrences p xs ≡ 0 → occurrences p (held ks) ≡ 0
  not_held p none = h p ∙ mark_none (occurrences p xs) none

  pub is_held : (p : Stamp) → 0 < occurrences p xs → 0 < occurrences p (held ks)
  is_held p some = let a = h p ∙ mark_some (occurrences p xs) some in omega (arith, a)

  none_occur : (n : ℕ) → 0 < mark n → 0 < n
  none_occur zero k = absurd (omega (arith, k))
  none_occur (suc n) k = omega arith

  does_occur : (p : Stamp) → 0 < occurrences p (held ks) → 0 < occurrences p xs
  does_occur p k = none_occur (occurrences p xs) (subst (λ n. 0 < n) (h p) k)

  pub not_listed : (p : Stamp) → occurrences p (held ks) ≡ 0 → occurrences p xs ≡ 0
  not_listed p none = by (occurrences p xs) (sym (h p) ∙ none)
    where
      by : (n : ℕ) → mark n ≡ 0 → n ≡ 0
      by zero k = refl
      by (suc n) k = (let a = mark_some (suc n) (omega arith) in absurd (omega (arith, k, a)))

  pub to_list : (p : Stamp) → Contains (held ks) p → Contains xs p
  to_list p at = stands p xs (does_occur p (occurs p (held ks) at))

  pub to_held : (p : Stamp) → Contains xs p → Contains (held ks) p
  to_held p at = stands p (held ks) (is_held p (occurs p xs at))

  pub frontier_held : (p : Stamp) → Frontier plan xs p → Frontier plan (held ks) p
  frontier_held p f = record { is_active = to_held p f.is_active; is_free = has-all _ (held ks) (λ q at. all-has _ xs q f.is_free (to_list q at)) }

  pub frontier_listed : (p : Stamp) → Frontier plan (held ks) p → Frontier plan xs p
  frontier_listed p f = record { is_active = to_list p f.is_active; is_free = has-all _ xs (λ q at. all-has _ (held ks) q f.is_free (to_held q at)) }

  pub precursors_listed : (p : Stamp) (n : ℕ) → Precursors plan (held ks) p n → Precursors plan xs p n
  precursors_listed p n k = record {
    each = k.each;
    all = λ q. (λ at. (let r = (k.all q).0 at in (to_list q r.0, r.1, r.2)), λ r. (k.all q).1 (to_held q r.0, r.1, r.2));
    once = k.once;
    count = k.count;
  }

  pub listed : (p : Stamp) → IfSome (count_of p ks) (Precursors plan (held ks) p) → IfSome (count_of p ks) (Precursors plan xs p)
  listed p k = by (count_of p ks) k
    where
      by : (o : Option ℕ) → IfSome o (Precursors plan (held ks) p) → IfSome o (Precursors plan xs p)
      by None k = tt
      by (Some n) k = precursors_listed p n k
