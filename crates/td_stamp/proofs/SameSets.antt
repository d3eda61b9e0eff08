-- Sets with the same members are the same.
use Rattle.std.proofs.Common.{◌≡◌, List, [], ◌∷◌, ◌||◌, refl, ap, sym, ◌∙◌, subst, true, false}
use Rattle.std.specs.List.{AllByRecursion}
use Rattle.std.specs.List.Sorted.{IsStrictlySortedBy}
use Rattle.std.specs.declared.cmp.Ordering.{Ordering}
use Rattle.std.specs.declared.cmp.Ordering.TheVariants.{Less, Equal, Greater}
use Rattle.std.specs.Ordering.{is_eq}
use Rattle.std.specs.Cmp.{IsTotalOrder}
use Rattle.std.specs.FinMap.{IsAntisymmetric}
use Rattle.std.proofs.lemmas.Cmp.{tied_itself}
use Rattle.std.proofs.lemmas.Map.Keys.{sorted_head, sorted_tail}
use Rattle.td_stamp.specs.Bag.{has}
use Rattle.td_stamp.proofs.Bags.{turned_back}
use Rattle.td_stamp.proofs.Rising.{all_weaker}

module _ {X : Type 0} (cmp : X → X → Ordering) (total : IsTotalOrder cmp) (apart : IsAntisymmetric cmp) where
  has_itself : (x : X) (ys : List X) → has cmp x (x ∷ ys) ≡ true
  has_itself x ys = ap (λ r. is_eq r || has cmp x ys) (tied_itself total x)

  none_above : (x : X) (ys : List X) → AllByRecursion (λ y. cmp x y ≡ Less) ys → has cmp x ys ≡ false
  none_above x [] above = refl
  none_above x (y ∷ ys) above = ap (λ r. is_eq r || has cmp x ys) above.0 ∙ none_above x ys above.1

  -- the first of one set stands in no other that begins above it
  not_below : (x y : X) (xs ys : List X) → IsStrictlySortedBy cmp (y ∷ ys) → cmp x y ≡ Less → has cmp x (x ∷ xs) ≡ has cmp x (y ∷ ys) → true ≡ false
  not_below x y xs ys sorted less alike =
      let above = all_weaker (λ z. cmp y z ≡ Less) (λ z. cmp x z ≡ Less) (λ z h. total.trans x y z less h) ys (sorted_head cmp y ys sorted) in
      sym (has_itself x xs) ∙ (alike ∙ none_above x (y ∷ ys) (less, above))

  -- of two sets that begin alike, the rest has the same members
  rest_alike : (x z : X) (xs ys : List X) → IsStrictlySortedBy cmp (x ∷ xs) → IsStrictlySortedBy cmp (x ∷ ys)
      → has cmp z (x ∷ xs) ≡ has cmp z (x ∷ ys) → has cmp z xs ≡ has cmp z ys
  rest_alike x z xs ys sorted other_sorted alike = by (cmp z x) refl
    where
      other : (r : Ordering) → is_eq r ≡ false → cmp z x ≡ r → has cmp z xs ≡ has cmp z ys
      other r untied e =
          let not_it : is_eq (cmp z x) ≡ false = ap is_eq e ∙ untied in
          sym (ap (λ b. b || has cmp z xs) not_it) ∙ (alike ∙ ap (λ b. b || has cmp z ys) not_it)

      by : (r : Ordering) → cmp z x ≡ r → has cmp z xs ≡ has cmp z ys
      by Less e = other Less refl e
      by Greater e = other Greater refl e
      by Equal e =
          let is : x ≡ z = sym (apart z x e) in
          none_above z xs (subst (λ w. AllByRecursion (λ y. cmp w y ≡ Less) xs) is (sorted_head cmp x xs sorted))
          ∙ sym (none_above z ys (subst (λ w. AllByRecursion (λ y. cmp w y ≡ Less) ys) is (sorted_head cmp x ys other_sorted)))

  pub same_members : (xs ys : List X) → IsStrictlySortedBy cmp xs → IsStrictlySortedBy cmp ys → ((z : X) → has cmp z xs ≡ has cmp z ys) → xs ≡ ys
  same_members [] [] sorted other_sorted alike = refl
  same_members [] (y ∷ ys) sorted other_sorted alike = let never : false ≡ true = alike y ∙ has_itself y ys in cc
  same_members (x ∷ xs) [] sorted other_sorted alike = let never : true ≡ false = sym (has_itself x xs) ∙ alike x in cc
  same_members (x ∷ xs) (y ∷ ys) sorted other_sorted alike = by (cmp x y) refl (same_members xs ys (sorted_tail cmp x xs sorted) (sorted_tail cmp y ys other_sorted))
    where
      by : (r : Ordering) → cmp x y ≡ r → (((z : X) → has cmp z xs ≡ has cmp z ys) → xs ≡ ys) → x ∷ xs ≡ y ∷ ys
      by Less e rest = let never : true ≡ false = not_below x y xs ys other_sorted e (alike x) in cc
      by Greater e rest = let never : true ≡ false = not_below y x ys xs sorted (turned_back cmp total apart x y e) (sym (alike y)) in cc
      by Equal e rest =
          let is : y ≡ x = sym (apart x y e) in
          let sorted_alike : IsStrictlySortedBy cmp (x ∷ ys) = subst (λ w. IsStrictlySortedBy cmp (w ∷ ys)) is other_sorted in
          λ i. sym is i ∷ rest (λ z. rest_alike x z xs ys sorted sorted_alike (alike z ∙ ap (λ w. has cmp z (w ∷ ys)) is)) i
