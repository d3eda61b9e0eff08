-- What holds others back, over lists of pointstamps.
use Rattle.std.proofs.Common.{◌≡◌, ℕ, zero, suc, ◌<◌, Bool, true, false, ◌&&◌, List, [], ◌∷◌, ◌++◌, replicate, Contains, refl, sym, ap, ◌∙◌, subst, true≢false, arith, nat_lt}
use Rattle.std.specs.List.{AllByRecursion}
use Rattle.td_plan.specs.Lines.{Line}
use Rattle.td_reach.specs.declared.stamp.Stamp.{Stamp}
use Rattle.td_reach.specs.Frontier.{Frontier, has_passed}
use Rattle.td_progress.specs.Bag.{IsSameBag}
use Rattle.td_progress.proofs.Counted.{occurs, stands}

module _ {X : Type 0} (P : X → Type 0) where
  pub all-append : (xs ys : List X) → AllByRecursion P xs → AllByRecursion P ys → AllByRecursion P (xs ++ ys)
  all-append [] ys h k = k
  all-append (x ∷ xs) ys h k = (h.0, all-append xs ys h.1 k)

  pub all-replicate : (n : ℕ) (x : X) → P x → AllByRecursion P (replicate n x)
  all-replicate zero x h = tt
  all-replicate (suc n) x h = (h, all-replicate n x h)

  pub all-has : (xs : List X) (x : X) → AllByRecursion P xs → Contains xs x → P x
  all-has [] x h at = absurd (omega (arith, at.1))
  all-has (y ∷ xs) x h (zero, within, at) = subst P at h.0
  all-has (y ∷ xs) x h (suc k, within, at) = all-has xs x h.1 (k, omega (arith, within), at)

  pub has-all : (xs : List X) → ((x : X) → Contains xs x → P x) → AllByRecursion P xs
  has-all [] h = tt
  has-all (x ∷ xs) h = (h x (0, omega arith, refl), has-all xs (λ y at. h y (suc at.0, omega (arith, at.1), at.2)))

-- The same bag has the same members
pub same_members : (xs ys : List Stamp) → IsSameBag xs ys → (p : Stamp) → Contains xs p → Contains ys p
same_members xs ys same p at = stands p ys (subst (λ n. 0 < n) (same p) (occurs p xs at))

pub same_frontier : (plan : List Line) (xs ys : List Stamp) (p : Stamp) → IsSameBag xs ys → Frontier plan xs p → Frontier plan ys p
same_frontier plan xs ys p same f = record {
  is_active = same_members xs ys same p f.is_active;
  is_free = has-all _ ys (λ q at. all-has _ xs q f.is_free (same_members ys xs (λ r. sym (same r)) q at));
}

abbrev pub IsLater : ℕ → Stamp → Type 0
IsLater epoch q = nat_lt epoch q.time.epoch ≡ true

pub passes : (xs : List Stamp) (epoch : ℕ) → AllByRecursion (IsLater epoch) xs → has_passed xs epoch ≡ true
passes [] epoch h = refl
passes (x ∷ xs) epoch h = ap (λ b. b && has_passed xs epoch) h.0 ∙ passes xs epoch h.1

passed-each : (xs : List Stamp) (epoch : ℕ) → has_passed xs epoch ≡ true → AllByRecursion (IsLater epoch) xs
passed-each [] epoch h = tt
passed-each (x ∷ xs) epoch h = by (nat_lt epoch x.time.epoch) refl h (passed-each xs epoch)
  where
    by : (b : Bool) → nat_lt epoch x.time.epoch ≡ b → (b && has_passed xs epoch) ≡ true
        → (has_passed xs epoch ≡ true → AllByRecursion (IsLater epoch) xs) → AllByRecursion (IsLater epoch) (x ∷ xs)
    by true e g later = (e, later g)
    by false e g later = absurd (true≢false (sym g))

same_either_way : (a b : Bool) → (a ≡ true → b ≡ true) → (b ≡ true → a ≡ true) → a ≡ b
same_either_way true true f g = refl
same_either_way true false f g = absurd (true≢false (sym (f refl)))
same_either_way false true f g = absurd (true≢false (sym (g refl)))
same_either_way false false f g = refl

one_way : (xs ys : List Stamp) (epoch : ℕ) → IsSameBag xs ys → has_passed xs epoch ≡ true → has_passed ys epoch ≡ true
one_way xs ys epoch same h =
    passes ys epoch (has-all _ ys (λ q at. all-has _ xs q (passed-each xs epoch h) (same_members ys xs (λ r. sym (same r)) q at)))

pub same_passed : (xs ys : List Stamp) (epoch : ℕ) → IsSameBag xs ys → has_passed xs epoch ≡ has_passed ys epoch
same_passed xs ys epoch same = same_either_way _ _ (one_way xs ys epoch same) (one_way ys xs epoch (λ r. sym (same r)))
