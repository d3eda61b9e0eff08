-- Sets: what holds of their elements, and that they rise strictly.
use Rattle.std.proofs.Common.{◌≡◌, List, [], ◌∷◌, refl, sym, subst}
use Rattle.std.specs.declared.cmp.Ordering.{Ordering}
use Rattle.std.specs.declared.cmp.Ordering.TheVariants.{Less, Equal, Greater}
use Rattle.std.specs.Cmp.{IsTotalOrder}
use Rattle.std.specs.FinMap.{IsAntisymmetric}
use Rattle.std.specs.List.{AllByRecursion}
use Rattle.std.specs.List.Sorted.{IsStrictlySortedBy}
use Rattle.td_stamp.specs.Bag.{set_insert, set_of}
use Rattle.td_stamp.proofs.Bags.{set_insert_past, set_insert_less, set_insert_equal, turned_back}
use Rattle.td_stamp.proofs.Rising.{all_weaker}

module _ {X : Type 0} (cmp : X → X → Ordering) (total : IsTotalOrder cmp) (same : IsAntisymmetric cmp) where
  -- what holds of x and of a set holds of the set with x
  pub all_set_insert : (P : X → Type 0) (x : X) (ys : List X) → P x → AllByRecursion P ys → AllByRecursion P (set_insert cmp x ys)
  all_set_insert P x [] h all = (h, tt)
  all_set_insert P x (y ∷ ys) h all = by (cmp x y) refl (all_set_insert P x ys h all.1)
    where
      by : (r : Ordering) → cmp x y ≡ r → AllByRecursion P (set_insert cmp x ys) → AllByRecursion P (set_insert cmp x (y ∷ ys))
      by Less e rest = subst (AllByRecursion P) (sym (set_insert_less cmp total same x y ys e)) (h, all)
      by Equal e rest = subst (AllByRecursion P) (sym (set_insert_equal cmp total same x y ys e)) all
      by Greater e rest = subst (AllByRecursion P) (sym (set_insert_past cmp total same x y ys e)) (all.0, rest)

  -- and the other way round
  pub all_from_set_insert : (P : X → Type 0) (x : X) (ys : List X) → AllByRecursion P (set_insert cmp x ys) → P x × AllByRecursion P ys
  all_from_set_insert P x [] all = (all.0, tt)
  all_from_set_insert P x (y ∷ ys) all = by (cmp x y) refl (all_from_set_insert P x ys)
    where
      by : (r : Ordering) → cmp x y ≡ r → (AllByRecursion P (set_insert cmp x ys) → P x × AllByRecursion P ys) → P x × AllByRecursion P (y ∷ ys)
      by Less e rest = subst (AllByRecursion P) (set_insert_less cmp total same x y ys e) all
      by Equal e rest =
          let there : AllByRecursion P (y ∷ ys) = subst (AllByRecursion P) (set_insert_equal cmp total same x y ys e) all in
          (subst P (sym (same x y e)) there.0, there)
      by Greater e rest =
          let there : AllByRecursion P (y ∷ set_insert cmp x ys) = subst (AllByRecursion P) (set_insert_past cmp total same x y ys e) all in
          let both = rest there.1 in (both.0, (there.0, both.1))

  pub all_set_of : (P : X → Type 0) (xs : List X) → AllByRecursion P xs → AllByRecursion P (set_of cmp xs)
  all_set_of P [] all = tt
  all_set_of P (x ∷ xs) all = all_set_insert P x (set_of cmp xs) all.0 (all_set_of P xs all.1)

  pub all_from_set_of : (P : X → Type 0) (xs : List X) → AllByRecursion P (set_of cmp xs) → AllByRecursion P xs
  all_from_set_of P [] all = tt
  all_from_set_of P (x ∷ xs) all = let both = all_from_set_insert P x (set_of cmp xs) all in (both.0, all_from_set_of P xs both.1)

  -- a set rises strictly
  pub set_insert-IsStrictlySortedBy : (x : X) (ys : List X) → IsStrictlySortedBy cmp ys → IsStrictlySortedBy cmp (set_insert cmp x ys)
  unfolding IsStrictlySortedBy
  set_insert-IsStrictlySortedBy x [] sorted = (tt, tt)
  set_insert-IsStrictlySortedBy x (y ∷ ys) sorted = by (cmp x y) refl (set_insert-IsStrictlySortedBy x ys sorted.1)
    where
      by : (r : Ordering) → cmp x y ≡ r → IsStrictlySortedBy cmp (set_insert cmp x ys) → IsStrictlySortedBy cmp (set_insert cmp x (y ∷ ys))
      by Less e rest =
          let above = all_weaker (λ z. cmp y z ≡ Less) (λ z. cmp x z ≡ Less) (λ z h. total.trans x y z e h) ys sorted.0 in
          subst (IsStrictlySortedBy cmp) (sym (set_insert_less cmp total same x y ys e)) ((e, above), sorted)
      by Equal e rest = subst (IsStrictlySortedBy cmp) (sym (set_insert_equal cmp total same x y ys e)) sorted
      by Greater e rest =
          subst (IsStrictlySortedBy cmp) (sym (set_insert_past cmp total same x y ys e)) (all_set_insert (λ z. cmp y z ≡ Less) x ys (turned_back cmp total same x y e) sorted.0, rest)

  pub set_of-IsStrictlySortedBy : (xs : List X) → IsStrictlySortedBy cmp (set_of cmp xs)
  unfolding IsStrictlySortedBy
  set_of-IsStrictlySortedBy [] = tt
  set_of-IsStrictlySortedBy (x ∷ xs) = set_insert-IsStrictlySortedBy x (set_of cmp xs) (set_of-IsStrictlySortedBy xs)
