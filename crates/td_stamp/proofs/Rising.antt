-- Lists in which no element is above a later one: the bags.
use Rattle.std.proofs.Common.{◌≡◌, ℕ, List, [], ◌∷◌, ◌++◌, refl, ap, sym, ◌∙◌, subst, Bool, true, false, cond, zero, suc, replicate, filter}
use Rattle.std.specs.declared.cmp.Ordering.{Ordering}
use Rattle.std.specs.declared.cmp.Ordering.TheVariants.{Less, Equal, Greater}
use Rattle.std.specs.Ordering.{is_gt}
use Rattle.std.specs.Cmp.{IsTotalOrder}
use Rattle.std.proofs.lemmas.Cmp.{tied_itself}
use Rattle.std.specs.FinMap.{IsAntisymmetric}
use Rattle.std.specs.List.{AllByRecursion}
use Rattle.std.specs.List.Sorted.{IsStrictlySortedBy}
use Rattle.std.specs.Map.{keys_of}
use Rattle.td_stamp.specs.Bag.{bag_insert, bag_of, IsBag, members}
use Rattle.td_stamp.specs.Rises.{IsBelowAll, Rises}
use Rattle.td_stamp.proofs.Bags.{insert_past, insert_before_less, insert_before_equal, turned_back}

-- what holds of each element of two lists holds of each of both
pub all_append : {X : Type 0} (P : X → Type 0) (xs ys : List X) → AllByRecursion P xs → AllByRecursion P ys → AllByRecursion P (xs ++ ys)
all_append P [] ys h k = k
all_append P (x ∷ xs) ys h k = (h.0, all_append P xs ys h.1 k)

pub all_weaker : {X : Type 0} (P Q : X → Type 0) → ((x : X) → P x → Q x) → (xs : List X) → AllByRecursion P xs → AllByRecursion Q xs
all_weaker P Q f [] h = tt
all_weaker P Q f (x ∷ xs) h = (f x h.0, all_weaker P Q f xs h.1)

module _ {X : Type 0} (cmp : X → X → Ordering) (total : IsTotalOrder cmp) (same : IsAntisymmetric cmp) where
  -- x goes to the front of what it is not above
  pub insert_front : (x : X) (ys : List X) → IsBelowAll cmp x ys → bag_insert cmp x ys ≡ x ∷ ys
  insert_front x [] h = refl
  insert_front x (y ∷ ys) h = by (cmp x y) refl h.0
    where
      by : (r : Ordering) → cmp x y ≡ r → is_gt (cmp x y) ≡ false → bag_insert cmp x (y ∷ ys) ≡ x ∷ y ∷ ys
      by Less e n = insert_before_less cmp total same x y ys e
      by Equal e n = insert_before_equal cmp total same x y ys e
      by Greater e n = let c : true ≡ false = sym (ap is_gt e) ∙ n in cc

  -- such a list is a bag
  pub IsBag-from_Rises : (xs : List X) → Rises cmp xs → IsBag cmp xs
  IsBag-from_Rises [] h = refl
  IsBag-from_Rises (x ∷ xs) h = ap (bag_insert cmp x) (IsBag-from_Rises xs h.1) ∙ insert_front x xs h.0

  not_above : (x y : X) → cmp x y ≡ Greater → is_gt (cmp y x) ≡ false
  not_above x y e = ap is_gt (turned_back cmp total same x y e)

  -- what is not above y, and y, are not above what y is not above
  pub below_through : (x y : X) (zs : List X) → is_gt (cmp x y) ≡ false → IsBelowAll cmp y zs → IsBelowAll cmp x zs
  below_through x y [] h b = tt
  below_through x y (z ∷ zs) h b = (one (cmp x y) refl (cmp y z) refl h b.0, below_through x y zs h b.1)
    where
      one : (r : Ordering) → cmp x y ≡ r → (s : Ordering) → cmp y z ≡ s → is_gt (cmp x y) ≡ false → is_gt (cmp y z) ≡ false → is_gt (cmp x z) ≡ false
      one Greater e s f n m = let c : true ≡ false = sym (ap is_gt e) ∙ n in cc
      one Equal e s f n m = ap is_gt (total.congr x y z e) ∙ m
      one Less e Greater f n m = let c : true ≡ false = sym (ap is_gt f) ∙ m in cc
      one Less e Less f n m = ap is_gt (total.trans x y z e f)
      one Less e Equal f n m = let P : X → Type 0 = λ w. is_gt (cmp x w) ≡ false in subst P (same y z f) n

  pub below_insert : (w x : X) (ys : List X) → is_gt (cmp w x) ≡ false → IsBelowAll cmp w ys → IsBelowAll cmp w (bag_insert cmp x ys)
  below_insert w x [] h b = (h, tt)
  below_insert w x (y ∷ ys) h b = by (cmp x y) refl (below_insert w x ys h b.1)
    where
      by : (r : Ordering) → cmp x y ≡ r → IsBelowAll cmp w (bag_insert cmp x ys) → IsBelowAll cmp w (bag_insert cmp x (y ∷ ys))
      by Greater e rest = subst (IsBelowAll cmp w) (sym (insert_past cmp total same x y ys e)) (b.0, rest)
      by Less e rest = subst (IsBelowAll cmp w) (sym (insert_before_less cmp total same x y ys e)) (h, b)
      by Equal e rest = subst (IsBelowAll cmp w) (sym (insert_before_equal cmp total same x y ys e)) (h, b)

  pub below_bag_of : (w : X) (xs : List X) → IsBelowAll cmp w xs → IsBelowAll cmp w (bag_of cmp xs)
  below_bag_of w [] b = tt
  below_bag_of w (x ∷ xs) b = below_insert w x (bag_of cmp xs) b.0 (below_bag_of w xs b.1)

  pub Rises-bag_insert : (x : X) (ys : List X) → Rises cmp ys → Rises cmp (bag_insert cmp x ys)
  Rises-bag_insert x [] h = (tt, tt)
  Rises-bag_insert x (y ∷ ys) h = by (cmp x y) refl (Rises-bag_insert x ys h.1)
    where
      by : (r : Ordering) → cmp x y ≡ r → Rises cmp (bag_insert cmp x ys) → Rises cmp (bag_insert cmp x (y ∷ ys))
      by Greater e rest = subst (Rises cmp) (sym (insert_past cmp total same x y ys e)) (below_insert y x ys (not_above x y e) h.0, rest)
      by Less e rest = subst (Rises cmp) (sym (insert_before_less cmp total same x y ys e)) ((ap is_gt e, below_through x y ys (ap is_gt e) h.0), h)
      by Equal e rest = subst (Rises cmp) (sym (insert_before_equal cmp total same x y ys e)) ((ap is_gt e, below_through x y ys (ap is_gt e) h.0), h)

  pub Rises-bag_of : (xs : List X) → Rises cmp (bag_of cmp xs)
  Rises-bag_of [] = tt
  Rises-bag_of (x ∷ xs) = Rises-bag_insert x (bag_of cmp xs) (Rises-bag_of xs)

  -- and a bag is such a list
  pub Rises-from_IsBag : (xs : List X) → IsBag cmp xs → Rises cmp xs
  Rises-from_IsBag xs b = subst (Rises cmp) b (Rises-bag_of xs)

  -- copies of a member, before what it is not above
  below_replicate : (x y : X) (n : ℕ) → is_gt (cmp x y) ≡ false → IsBelowAll cmp x (replicate n y)
  below_replicate x y zero h = tt
  below_replicate x y (suc n) h = (h, below_replicate x y n h)

  Rises-replicate : (n : ℕ) (x : X) (ys : List X) → IsBelowAll cmp x ys → Rises cmp ys → Rises cmp (replicate n x ++ ys)
  Rises-replicate zero x ys b h = h
  Rises-replicate (suc n) x ys b h =
      (all_append (λ y. is_gt (cmp x y) ≡ false) (replicate n x) ys (below_replicate x x n (ap is_gt (tied_itself total x))) b, Rises-replicate n x ys b h)

  below_members : (x : X) (es : List (X × ℕ)) → AllByRecursion (λ y. cmp x y ≡ Less) (keys_of es) → IsBelowAll cmp x (members es)
  below_members x [] h = tt
  below_members x (e ∷ es) h = all_append (λ y. is_gt (cmp x y) ≡ false) (replicate e.1 e.0) (members es) (below_replicate x e.0 e.1 (ap is_gt h.0)) (below_members x es h.1)

  -- entries in order are a bag
  pub Rises-members : (es : List (X × ℕ)) → IsStrictlySortedBy cmp (keys_of es) → Rises cmp (members es)
  unfolding IsStrictlySortedBy
  Rises-members [] sorted = tt
  Rises-members (e ∷ es) sorted = Rises-replicate e.1 e.0 (members es) (below_members e.0 es sorted.0) (Rises-members es sorted.1)

  pub IsBag-members : (es : List (X × ℕ)) → IsStrictlySortedBy cmp (keys_of es) → IsBag cmp (members es)
  IsBag-members es sorted = IsBag-from_Rises (members es) (Rises-members es sorted)

  below_filter : (p : X → Bool) (w : X) (xs : List X) → IsBelowAll cmp w xs → IsBelowAll cmp w (filter p xs)
  below_filter p w [] b = tt
  below_filter p w (x ∷ xs) b = by (p x) (below_filter p w xs b.1)
    where
      by : (s : Bool) → IsBelowAll cmp w (filter p xs) → IsBelowAll cmp w (cond s (x ∷ filter p xs) (filter p xs))
      by true rest = (b.0, rest)
      by false rest = rest

  Rises-filter : (p : X → Bool) (xs : List X) → Rises cmp xs → Rises cmp (filter p xs)
  Rises-filter p [] h = tt
  Rises-filter p (x ∷ xs) h = by (p x) (Rises-filter p xs h.1)
    where
      by : (s : Bool) → Rises cmp (filter p xs) → Rises cmp (cond s (x ∷ filter p xs) (filter p xs))
      by true rest = (below_filter p x xs h.0, rest)
      by false rest = rest

  -- what passes a test of a bag is a bag
  pub IsBag-filter : (p : X → Bool) (xs : List X) → IsBag cmp xs → IsBag cmp (filter p xs)
  IsBag-filter p xs b = IsBag-from_Rises (filter p xs) (Rises-filter p xs (Rises-from_IsBag xs b))
