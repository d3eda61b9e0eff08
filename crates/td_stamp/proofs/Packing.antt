-- Members that are sorted as numbers, and members that come sorted.
use Rattle.std.proofs.Common.{◌≡◌, ℕ, ◌+◌, ◌<◌, ◌≤◌, ◌↔◌, List, [], ◌∷◌, length, map, get_or, refl, ap, sym, ◌∙◌, subst, Bool, true, false, Option, Some, arith}
use Rattle.std.specs.declared.cmp.Ordering.{Ordering}
use Rattle.std.specs.declared.cmp.Ordering.TheVariants.{Less, Equal, Greater}
use Rattle.std.specs.Ordering.{is_gt, is_le, is_lt, nat_cmp, is_some_and, ordering_reverse}
use Rattle.std.specs.Cmp.{IsTotalOrder}
use Rattle.std.specs.FinMap.{IsAntisymmetric}
use Rattle.std.specs.Bool.{IsTrue}
use Rattle.std.specs.List.{AllAdjacentBelow, IsAllAdjacentAnswer}
use Rattle.std.specs.List.Sorted.{IsPermutation, IsSorted}
use Rattle.std.proofs.lemmas.List.{get_or-map, length-map}
use Rattle.std.proofs.lemmas.List.Sorted.{IsPermutation-map, IsPermutation-refl}
use Rattle.std.proofs.lemmas.Map.Keys.{ge_from_not_lt}
use Rattle.td_stamp.specs.Bag.{bag_of, IsBag}
use Rattle.td_stamp.proofs.Sorted.{sorted_is_bag, not_below-from_not_above, IsSorted-bag_of}

not_above-from_le : (r : Ordering) → is_le r ≡ true → is_gt r ≡ false
not_above-from_le Less e = refl
not_above-from_le Equal e = refl
not_above-from_le Greater e = cc

module _ {X : Type 0} (cmp : X → X → Ordering) (total : IsTotalOrder cmp) (same : IsAntisymmetric cmp) where
  -- what numbers in order stand for is in order
  IsSorted-map : (f : ℕ → X) → ((m n : ℕ) → m ≤ n → is_gt (cmp (f m) (f n)) ≡ false) → (ns : List ℕ) → IsSorted nat_cmp ns → IsSorted cmp (map f ns)
  IsSorted-map f rises ns sorted k d low lt =
      let long : length (map f ns) ≡ length ns = length-map ns f in
      let later : get_or (map f ns) (k + 1) d ≡ f (get_or ns (k + 1) 0) = get_or-map f ns (k + 1) 0 d (omega (arith, long)) in
      let here : get_or (map f ns) k d ≡ f (get_or ns k 0) = get_or-map f ns k 0 d (omega (arith, long)) in
      let le : get_or ns k 0 ≤ get_or ns (k + 1) 0 = ge_from_not_lt (get_or ns (k + 1) 0) (get_or ns k 0) (sorted k 0 low (omega (arith, long))) in
      rw (later, here) (not_below-from_not_above cmp total same (f (get_or ns k 0)) (f (get_or ns (k + 1) 0)) (rises (get_or ns k 0) (get_or ns (k + 1) 0) le))

  -- so members that are sorted as numbers are their bag
  pub sorted_as_numbers : (f : ℕ → X) → ((m n : ℕ) → m ≤ n → is_gt (cmp (f m) (f n)) ≡ false) → (ns ms : List ℕ) → IsPermutation ns ms → IsSorted nat_cmp ms → map f ms ≡ bag_of cmp (map f ns)
  sorted_as_numbers f rises ns ms moved sorted =
      sorted_is_bag cmp total same (map f ns) (map f ms) (IsPermutation-map f ns ms moved) (IsSorted-map f rises ms sorted)

  -- members that come in order are their bag
  pub sorted_already : (partial : X → X → Option Ordering) → ((x y : X) → partial x y ≡ Some (cmp x y)) → (xs : List X)
      → AllAdjacentBelow (λ x y. is_some_and is_le (partial x y) ≡ true) xs (length xs) → xs ≡ bag_of cmp xs
  sorted_already partial is xs up =
      sorted_is_bag cmp total same xs xs (IsPermutation-refl xs)
      (λ k d low lt.
      not_below-from_not_above cmp total same (get_or xs k d) (get_or xs (k + 1) d)
      (not_above-from_le (cmp (get_or xs k d) (get_or xs (k + 1) d)) (sym (ap (is_some_and is_le) (is (get_or xs k d) (get_or xs (k + 1) d))) ∙ up k d lt)))

  -- what is not below what stands before it
  le-from_not_below : (x y : X) → is_lt (cmp y x) ≡ false → is_le (cmp x y) ≡ true
  le-from_not_below x y not = ap is_le (total.antisymm x y) ∙ by (cmp y x) not
    where
      by : (r : Ordering) → is_lt r ≡ false → is_le (ordering_reverse r) ≡ true
      by Less e = absurd (cc)
      by Equal e = refl
      by Greater e = refl

  -- members come in order exactly where they are their bag
  pub in_order : (partial : X → X → Option Ordering) → ((x y : X) → partial x y ≡ Some (cmp x y)) → (xs : List X) (r : Bool)
      → IsAllAdjacentAnswer (λ x y b. is_some_and is_le (partial x y) ≡ b) xs r → IsTrue r ↔ IsBag cmp xs
  in_order partial is xs true up = (λ t. sym (sorted_already partial is xs up), λ bag. refl)
  in_order partial is [] false down = (λ t. absurd (cc), λ bag. absurd (let lt = down.1 in omega (arith, lt)))
  in_order partial is (x ∷ xs) false down = (
    λ t. absurd (cc),
    λ bag.
        let k = down.0 in
        let sorted = subst (IsSorted cmp) bag (IsSorted-bag_of cmp total same (x ∷ xs)) in
        let here = get_or (x ∷ xs) k x in
        let next = get_or (x ∷ xs) (k + 1) x in
        let le = le-from_not_below here next (sorted k x (omega arith) down.1) in
        let both : false ≡ true = sym (down.2 x) ∙ (ap (is_some_and is_le) (is here next) ∙ le) in
        absurd (cc),
  )
