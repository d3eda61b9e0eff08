-- A list that is sorted in place becomes its bag.
use Rattle.std.proofs.Common.{◌≡◌, ℕ, ◌+◌, ◌<◌, suc, zero, List, [], ◌∷◌, ◌++◌, length, refl, ap, sym, ◌∙◌, subst, true, false, ◌-◌, arith, take, drop, get_or, set, slice_get, Some, ⊎_elim}
use Rattle.std.specs.declared.cmp.Ordering.{Ordering}
use Rattle.std.specs.declared.cmp.Ordering.TheVariants.{Less, Equal, Greater}
use Rattle.std.specs.Ordering.{is_gt, is_lt, ordering_reverse}
use Rattle.std.specs.Cmp.{IsTotalOrder}
use Rattle.std.specs.FinMap.{IsAntisymmetric}
use Rattle.std.specs.List.{swap}
use Rattle.std.specs.List.Sorted.{IsPermutation, IsSorted}
use Rattle.std.proofs.lemmas.List.{set_split, get_or-set_same, get_or-set_other, set-get_or, length-set}
use Rattle.std.proofs.lemmas.Bool.{cases_eq}
use Rattle.std.proofs.lemmas.List.Edits.{swap_is}
use Rattle.std.proofs.lemmas.List.Sorted.{IsPermutation-keeps, IsPermutation-refl, IsPermutation-sym, IsPermutation-trans, IsPermutation-cons, IsPermutation-middle}
use Rattle.td_stamp.specs.Bag.{bag_insert, bag_of, join, IsBag}
use Rattle.td_stamp.specs.Rises.{Rises}
use Rattle.td_stamp.proofs.Bags.{insert_past, insert_before_less, insert_before_equal, join-middle, join_comm, bag_insert_cancel, bag_of-append, bag_of-push}
use Rattle.td_stamp.proofs.Rising.{Rises-bag_of, IsBag-from_Rises, Rises-from_IsBag, below_through}

module _ {X : Type 0} (cmp : X → X → Ordering) (total : IsTotalOrder cmp) (same : IsAntisymmetric cmp) where
  -- all elements but that at i
  abbrev without : List X → ℕ → List X
  without xs i = take i xs ++ drop (suc i) xs

  -- the bag of a list with x at place i
  bag_of-set : (xs : List X) (i : ℕ) (x : X) → i < length xs → bag_of cmp (set xs i x) ≡ bag_insert cmp x (bag_of cmp (without xs i))
  bag_of-set xs i x lt = ap (bag_of cmp) (set_split xs i x lt) ∙ join-middle cmp total same (take i xs) x (drop (suc i) xs) []

  bag_of-at : (xs : List X) (i : ℕ) (d : X) → i < length xs → bag_of cmp xs ≡ bag_insert cmp (get_or xs i d) (bag_of cmp (without xs i))
  bag_of-at xs i d lt = ap (bag_of cmp) (sym (set-get_or xs i d)) ∙ bag_of-set xs i (get_or xs i d) lt

  -- two elements may change places
  bag_of-exchange : (xs : List X) (i j : ℕ) → i < length xs → j < length xs → bag_of cmp (swap xs i j) ≡ bag_of cmp xs
  bag_of-exchange [] i j p q = absurd (omega arith)
  bag_of-exchange (x ∷ rest) i j p q =
      let xs : List X = x ∷ rest in
      let y : X = get_or xs i x in
      let z : X = get_or xs j x in
      let w : List X = set xs i z in
      let long : length w ≡ length xs = length-set xs i z in
      let q' : j < length w = omega (arith, long) in
      let there : get_or w j x ≡ z = ⊎_elim (λ e. ap (λ n. get_or w n x) e ∙ get_or-set_same xs i z x p) (λ n. get_or-set_other xs i j z x n) (cases_eq j i) in
      let kept : bag_of cmp (without w j) ≡ bag_of cmp (without xs i) =
      bag_insert_cancel cmp total same z (bag_of cmp (without w j)) (bag_of cmp (without xs i))
      (ap (λ u. bag_insert cmp u (bag_of cmp (without w j))) (sym there) ∙ sym (bag_of-at w j x q') ∙ bag_of-set xs i z p) in
      ap (bag_of cmp) (sym (swap_is xs i j x p q)) ∙ bag_of-set w j y q' ∙ ap (bag_insert cmp y) kept ∙ sym (bag_of-at xs i x p)

  not_above-from_not_below : (x y : X) → is_lt (cmp y x) ≡ false → is_gt (cmp x y) ≡ false
  not_above-from_not_below x y e = by (cmp y x) refl e
    where
      by : (r : Ordering) → cmp y x ≡ r → is_lt (cmp y x) ≡ false → is_gt (cmp x y) ≡ false
      by Less f n = let c : true ≡ false = sym (ap is_lt f) ∙ n in cc
      by Equal f n = ap is_gt (total.antisymm x y ∙ ap ordering_reverse f)
      by Greater f n = ap is_gt (total.antisymm x y ∙ ap ordering_reverse f)

  -- what a sort leaves
  Rises-from_IsSorted : (xs : List X) → IsSorted cmp xs → Rises cmp xs
  Rises-from_IsSorted [] h = tt
  Rises-from_IsSorted (x ∷ []) h = (tt, tt)
  Rises-from_IsSorted (x ∷ y ∷ ys) h =
      let later : (k : ℕ) → suc (k + 1) ≡ suc k + 1 = λ k. omega arith in
      let rest = Rises-from_IsSorted (y ∷ ys) (λ k d low lt. ap (λ n. is_lt (cmp (get_or (x ∷ y ∷ ys) n d) (get_or (y ∷ ys) k d))) (later k) ∙ h (suc k) d (omega arith) (omega arith)) in
      let first : is_gt (cmp x y) ≡ false = not_above-from_not_below x y (h zero x (omega arith) (omega arith)) in
      ((first, below_through cmp total same x y ys first rest.0), rest)

  pub not_below-from_not_above : (x y : X) → is_gt (cmp x y) ≡ false → is_lt (cmp y x) ≡ false
  not_below-from_not_above x y e = by (cmp x y) refl e
    where
      by : (r : Ordering) → cmp x y ≡ r → is_gt (cmp x y) ≡ false → is_lt (cmp y x) ≡ false
      by Less f n = ap is_lt (total.antisymm y x ∙ ap ordering_reverse f)
      by Equal f n = ap is_lt (total.antisymm y x ∙ ap ordering_reverse f)
      by Greater f n = let c : true ≡ false = sym (ap is_gt f) ∙ n in cc

  -- and what rises is what a sort leaves
  IsSorted-from_Rises : (xs : List X) → Rises cmp xs → IsSorted cmp xs
  IsSorted-from_Rises [] h k d low lt = absurd (omega arith)
  IsSorted-from_Rises (x ∷ []) h k d low lt = absurd (omega arith)
  IsSorted-from_Rises (x ∷ y ∷ ys) h zero d low lt = not_below-from_not_above x y h.0.0
  IsSorted-from_Rises (x ∷ y ∷ ys) h (suc k) d low lt =
      let later : suc k + 1 ≡ suc (k + 1) = omega arith in
      ap (λ n. is_lt (cmp (get_or (x ∷ y ∷ ys) n d) (get_or (y ∷ ys) k d))) later ∙ IsSorted-from_Rises (y ∷ ys) h.1 k d (omega arith) (omega arith)

  pub IsSorted-bag_of : (xs : List X) → IsSorted cmp (bag_of cmp xs)
  IsSorted-bag_of xs = IsSorted-from_Rises (bag_of cmp xs) (Rises-bag_of cmp total same xs)

  -- a bag has the elements of its list
  moved_in : (x : X) (ys : List X) → IsPermutation (x ∷ ys) (bag_insert cmp x ys)
  moved_in x [] = IsPermutation-refl (x ∷ [])
  moved_in x (y ∷ ys) = by (cmp x y) refl (moved_in x ys)
    where
      by : (r : Ordering) → cmp x y ≡ r → IsPermutation (x ∷ ys) (bag_insert cmp x ys) → IsPermutation (x ∷ y ∷ ys) (bag_insert cmp x (y ∷ ys))
      by Less e rest = subst (IsPermutation (x ∷ y ∷ ys)) (sym (insert_before_less cmp total same x y ys e)) (IsPermutation-refl (x ∷ y ∷ ys))
      by Equal e rest = subst (IsPermutation (x ∷ y ∷ ys)) (sym (insert_before_equal cmp total same x y ys e)) (IsPermutation-refl (x ∷ y ∷ ys))
      by Greater e rest =
          subst (IsPermutation (x ∷ y ∷ ys)) (sym (insert_past cmp total same x y ys e))
          (IsPermutation-trans (x ∷ y ∷ ys) (y ∷ x ∷ ys) (y ∷ bag_insert cmp x ys)
          (IsPermutation-sym (y ∷ x ∷ ys) (x ∷ y ∷ ys) (IsPermutation-middle (y ∷ []) x ys))
          (IsPermutation-cons y (x ∷ ys) (bag_insert cmp x ys) rest))

  pub IsPermutation-bag_of : (xs : List X) → IsPermutation xs (bag_of cmp xs)
  IsPermutation-bag_of [] = IsPermutation-refl []
  IsPermutation-bag_of (x ∷ xs) =
      IsPermutation-trans (x ∷ xs) (x ∷ bag_of cmp xs) (bag_of cmp (x ∷ xs)) (IsPermutation-cons x xs (bag_of cmp xs) (IsPermutation-bag_of xs)) (moved_in x (bag_of cmp xs))

  -- A SORT MAKES THE BAG
  pub sorted_is_bag : (xs ys : List X) → IsPermutation xs ys → IsSorted cmp ys → ys ≡ bag_of cmp xs
  sorted_is_bag xs ys moved sorted =
      sym (IsBag-from_Rises cmp total same ys (Rises-from_IsSorted ys sorted))
      ∙ IsPermutation-keeps xs (λ l. bag_of cmp l ≡ bag_of cmp xs) refl (λ l i j p q h. bag_of-exchange l i j p q ∙ h) ys moved

  -- two bags, one after the other, make the bag of both
  pub bag_of-both : (xs ys : List X) → IsBag cmp xs → IsBag cmp ys → bag_of cmp (xs ++ ys) ≡ join cmp ys xs
  bag_of-both xs ys a b = bag_of-append cmp total same xs ys ∙ ap (join cmp xs) b ∙ join_comm cmp total same xs ys a b

  -- x after the last element, which is not above it
  rises_with_last : (x l : X) (xs : List X) → Rises cmp xs → slice_get xs (length xs - 1) ≡ Some l → is_gt (cmp l x) ≡ false → Rises cmp (xs ++ x ∷ [])
  rises_with_last x l [] h e n = (tt, tt)
  rises_with_last x l (y ∷ []) h e n = let f : y ≡ l = cc in ((ap (λ m. is_gt (cmp m x)) f ∙ n, tt), (tt, tt))
  rises_with_last x l (y ∷ z ∷ zs) h e n =
      let here : suc (length zs) - 1 ≡ length zs = omega arith in
      let there : suc (suc (length zs)) - 1 ≡ suc (length zs) = omega arith in
      let rest = rises_with_last x l (z ∷ zs) h.1 (ap (slice_get (z ∷ zs)) here ∙ ap (slice_get (y ∷ z ∷ zs)) (sym there) ∙ e) n in ((h.0.0, below_through cmp total same y z (zs ++ x ∷ []) h.0.0 rest.0), rest)

  -- it goes to the end of the bag
  pub insert_last : (x l : X) (xs : List X) → IsBag cmp xs → slice_get xs (length xs - 1) ≡ Some l → is_gt (cmp l x) ≡ false → bag_insert cmp x xs ≡ xs ++ x ∷ []
  insert_last x l xs bag e n =
      ap (bag_insert cmp x) (sym bag) ∙ sym (bag_of-push cmp total same xs x)
      ∙ IsBag-from_Rises cmp total same (xs ++ x ∷ []) (rises_with_last x l xs (Rises-from_IsBag cmp total same xs bag) e n)
