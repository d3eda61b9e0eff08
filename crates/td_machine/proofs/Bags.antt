-- Bags and sets, by the laws of td_stamp: in the forms in which proofs use them.
use Rattle.std.proofs.Common.{◌≡◌, ◌+◌, List, [], ◌∷◌, ◌++◌, map, flat_map, filter, length, suc, refl, ap, sym, ◌∙◌, subst, Bool, true, false, ◌||◌, arith}
use Rattle.std.proofs.lemmas.List.Concat.{flat_map_single}
use Rattle.std.specs.List.{AllByRecursion}
use Rattle.std.specs.List.Sorted.{IsStrictlySortedBy}
use Rattle.std.specs.declared.cmp.Ordering.{Ordering}
use Rattle.std.specs.declared.cmp.Ordering.TheVariants.{Less, Equal, Greater}
use Rattle.std.specs.Ordering.{is_eq, ordering_reverse}
use Rattle.std.specs.Cmp.{IsTotalOrder}
use Rattle.td_stamp.specs.Bag.{bag_insert, bag_remove, set_insert, set_has, join, bag_of, set_of, has, IsBag}
use Rattle.td_stamp.specs.Rises.{Rises}
use Rattle.td_stamp.specs.BagLaws.{BagLaws, SetLaws}

pub turned_back : {X : Type 0} (cmp : X → X → Ordering) → IsTotalOrder cmp → (x y : X) → cmp x y ≡ Greater → cmp y x ≡ Less
turned_back cmp total x y e = total.antisymm y x ∙ ap ordering_reverse e

-- ONE STEP of an insertion, and of a look
module _ {X : Type 0} (cmp : X → X → Ordering) where
  pub insert_past : (x y : X) (ys : List X) → cmp x y ≡ Greater → bag_insert cmp x (y ∷ ys) ≡ y ∷ bag_insert cmp x ys
  insert_past x y ys e = rw (e, bag_insert) refl

  pub insert_before_less : (x y : X) (ys : List X) → cmp x y ≡ Less → bag_insert cmp x (y ∷ ys) ≡ x ∷ y ∷ ys
  insert_before_less x y ys e = rw (e, bag_insert) refl

  pub insert_before_equal : (x y : X) (ys : List X) → cmp x y ≡ Equal → bag_insert cmp x (y ∷ ys) ≡ x ∷ y ∷ ys
  insert_before_equal x y ys e = rw (e, bag_insert) refl

  pub set_insert_past : (x y : X) (ys : List X) → cmp x y ≡ Greater → set_insert cmp x (y ∷ ys) ≡ y ∷ set_insert cmp x ys
  set_insert_past x y ys e = rw (e, set_insert) refl

  pub set_insert_less : (x y : X) (ys : List X) → cmp x y ≡ Less → set_insert cmp x (y ∷ ys) ≡ x ∷ y ∷ ys
  set_insert_less x y ys e = rw (e, set_insert) refl

  pub set_insert_equal : (x y : X) (ys : List X) → cmp x y ≡ Equal → set_insert cmp x (y ∷ ys) ≡ y ∷ ys
  set_insert_equal x y ys e = rw (e, set_insert) refl

  pub set_has_less : (x y : X) (ys : List X) → cmp x y ≡ Less → set_has cmp x (y ∷ ys) ≡ false
  set_has_less x y ys e = rw (e, set_has) refl

  pub set_has_equal : (x y : X) (ys : List X) → cmp x y ≡ Equal → set_has cmp x (y ∷ ys) ≡ true
  set_has_equal x y ys e = rw (e, set_has) refl

  pub set_has_past : (x y : X) (ys : List X) → cmp x y ≡ Greater → set_has cmp x (y ∷ ys) ≡ set_has cmp x ys
  set_has_past x y ys e = rw (e, set_has) refl

-- WHAT HOLDS OF ALL members
module _ {X : Type 0} (cmp : X → X → Ordering) where
  pub all_insert : (P : X → Type 0) (x : X) (ys : List X) → P x → AllByRecursion P ys → AllByRecursion P (bag_insert cmp x ys)
  all_insert P x [] h k = (h, tt)
  all_insert P x (y ∷ ys) h k = by (cmp x y) refl (all_insert P x ys h k.1)
    where
      by : (r : Ordering) → cmp x y ≡ r → AllByRecursion P (bag_insert cmp x ys) → AllByRecursion P (bag_insert cmp x (y ∷ ys))
      by Less e rest = subst (AllByRecursion P) (sym (insert_before_less cmp x y ys e)) (h, k)
      by Equal e rest = subst (AllByRecursion P) (sym (insert_before_equal cmp x y ys e)) (h, k)
      by Greater e rest = subst (AllByRecursion P) (sym (insert_past cmp x y ys e)) (k.0, rest)

  pub from_insert : (P : X → Type 0) (x : X) (ys : List X) → AllByRecursion P (bag_insert cmp x ys) → P x × AllByRecursion P ys
  from_insert P x [] h = (h.0, tt)
  from_insert P x (y ∷ ys) h = by (cmp x y) refl (from_insert P x ys)
    where
      by : (r : Ordering) → cmp x y ≡ r → (AllByRecursion P (bag_insert cmp x ys) → P x × AllByRecursion P ys) → P x × AllByRecursion P (y ∷ ys)
      by Less e rest = subst (AllByRecursion P) (insert_before_less cmp x y ys e) h
      by Equal e rest = subst (AllByRecursion P) (insert_before_equal cmp x y ys e) h
      by Greater e rest = let k = subst (AllByRecursion P) (insert_past cmp x y ys e) h in let r = rest k.1 in (r.0, (k.0, r.1))

  pub all_join : (P : X → Type 0) (xs ys : List X) → AllByRecursion P xs → AllByRecursion P ys → AllByRecursion P (join cmp xs ys)
  all_join P [] ys h k = k
  all_join P (x ∷ xs) ys h k = all_insert P x (join cmp xs ys) h.0 (all_join P xs ys h.1 k)

  pub from_join : (P : X → Type 0) (xs ys : List X) → AllByRecursion P (join cmp xs ys) → AllByRecursion P xs × AllByRecursion P ys
  from_join P [] ys h = (tt, h)
  from_join P (x ∷ xs) ys h = let a = from_insert P x (join cmp xs ys) h in let b = from_join P xs ys a.1 in ((a.0, b.0), b.1)

  pub all_set_insert : (P : X → Type 0) (x : X) (ys : List X) → P x → AllByRecursion P ys → AllByRecursion P (set_insert cmp x ys)
  all_set_insert P x [] h all = (h, tt)
  all_set_insert P x (y ∷ ys) h all = by (cmp x y) refl (all_set_insert P x ys h all.1)
    where
      by : (r : Ordering) → cmp x y ≡ r → AllByRecursion P (set_insert cmp x ys) → AllByRecursion P (set_insert cmp x (y ∷ ys))
      by Less e rest = subst (AllByRecursion P) (sym (set_insert_less cmp x y ys e)) (h, all)
      by Equal e rest = subst (AllByRecursion P) (sym (set_insert_equal cmp x y ys e)) all
      by Greater e rest = subst (AllByRecursion P) (sym (set_insert_past cmp x y ys e)) (all.0, rest)

  pub all_set_of : (P : X → Type 0) (xs : List X) → AllByRecursion P xs → AllByRecursion P (set_of cmp xs)
  all_set_of P [] all = tt
  all_set_of P (x ∷ xs) all = all_set_insert P x (set_of cmp xs) all.0 (all_set_of P xs all.1)

  pub has_app : (z : X) (xs ys : List X) → has cmp z (xs ++ ys) ≡ (has cmp z xs || has cmp z ys)
  has_app z [] ys = refl
  has_app z (x ∷ xs) ys = ap (λ b. is_eq (cmp z x) || b) (has_app z xs ys) ∙ assoc (is_eq (cmp z x)) (has cmp z xs) (has cmp z ys)
    where
      assoc : (a b c : Bool) → (a || (b || c)) ≡ ((a || b) || c)
      assoc true b c = refl
      assoc false b c = refl

-- BAGS
module _ {X : Type 0} (cmp : X → X → Ordering) (bags : BagLaws cmp) where
  pub join-assoc : (xs ys zs : List X) → join cmp (join cmp xs ys) zs ≡ join cmp xs (join cmp ys zs)
  join-assoc = bags.associative

  pub join-swap : (xs ys zs : List X) → join cmp xs (join cmp ys zs) ≡ join cmp ys (join cmp xs zs)
  join-swap = bags.swaps

  pub join-append : (xs ys zs : List X) → join cmp (xs ++ ys) zs ≡ join cmp xs (join cmp ys zs)
  join-append = bags.append

  pub join-middle : (xs : List X) (x : X) (ys zs : List X) → join cmp (xs ++ x ∷ ys) zs ≡ bag_insert cmp x (join cmp (xs ++ ys) zs)
  join-middle = bags.middle

  pub join_cancel : (xs ys zs : List X) → join cmp xs ys ≡ join cmp xs zs → ys ≡ zs
  join_cancel = bags.cancels

  pub join-bag_of : (xs zs : List X) → join cmp (bag_of cmp xs) zs ≡ join cmp xs zs
  join-bag_of xs zs = bags.associative xs [] zs

  pub join-IsBag : (xs ys : List X) → IsBag cmp ys → IsBag cmp (join cmp xs ys)
  join-IsBag xs ys b = bags.associative xs ys [] ∙ ap (join cmp xs) b

  pub join-bag_insert : (xs : List X) (x : X) (zs : List X) → join cmp xs (bag_insert cmp x zs) ≡ bag_insert cmp x (join cmp xs zs)
  join-bag_insert xs x zs = bags.swaps xs (x ∷ []) zs

  pub bag_insert-join : (x : X) (xs zs : List X) → join cmp (bag_insert cmp x xs) zs ≡ bag_insert cmp x (join cmp xs zs)
  bag_insert-join x xs zs = bags.associative (x ∷ []) xs zs

  pub bag_insert-bag_insert : (x y : X) (zs : List X) → bag_insert cmp x (bag_insert cmp y zs) ≡ bag_insert cmp y (bag_insert cmp x zs)
  bag_insert-bag_insert x y zs = bags.swaps (x ∷ []) (y ∷ []) zs

  pub bag_insert_cancel : (x : X) (ys zs : List X) → bag_insert cmp x ys ≡ bag_insert cmp x zs → ys ≡ zs
  bag_insert_cancel x ys zs e = bags.cancels (x ∷ []) ys zs e

  pub bag_remove-bag_insert : (x : X) (ys : List X) → bag_remove cmp x (bag_insert cmp x ys) ≡ ys
  bag_remove-bag_insert = bags.removes

  pub bag_of-append : (xs ys : List X) → bag_of cmp (xs ++ ys) ≡ join cmp xs (bag_of cmp ys)
  bag_of-append xs ys = bags.append xs ys []

  pub bag_of-IsBag : (xs : List X) → IsBag cmp (bag_of cmp xs)
  bag_of-IsBag xs = bags.associative xs [] []

  pub has-bag_insert : (z x : X) (ys : List X) → has cmp z (bag_insert cmp x ys) ≡ (is_eq (cmp z x) || has cmp z ys)
  has-bag_insert = bags.found

  pub length-join : (xs ys : List X) → length (join cmp xs ys) ≡ length xs + length ys
  length-join = bags.size

  pub length-bag_insert : (x : X) (ys : List X) → length (bag_insert cmp x ys) ≡ suc (length ys)
  length-bag_insert x ys = let n : length (bag_insert cmp x ys) ≡ 1 + length ys = bags.size (x ∷ []) ys in omega (arith, n)

  pub IsBag-filter : (p : X → Bool) (xs : List X) → IsBag cmp xs → IsBag cmp (filter p xs)
  IsBag-filter = bags.filtered

  pub filter-join : (p : X → Bool) (xs ys : List X) → IsBag cmp ys → filter p (join cmp xs ys) ≡ join cmp (filter p xs) (filter p ys)
  filter-join = bags.filtered_join

  pub filter-bag_of : (p : X → Bool) (xs : List X) → filter p (bag_of cmp xs) ≡ bag_of cmp (filter p xs)
  filter-bag_of p xs = bags.filtered_join p xs [] refl

  pub IsBag-from_Rises : (xs : List X) → Rises cmp xs → IsBag cmp xs
  IsBag-from_Rises xs = (bags.rises xs).1

  pub Rises-from_IsBag : (xs : List X) → IsBag cmp xs → Rises cmp xs
  Rises-from_IsBag xs = (bags.rises xs).0

-- SETS
module _ {X : Type 0} (cmp : X → X → Ordering) (sets : SetLaws cmp) where
  pub set-middle : (xs : List X) (x : X) (ys : List X) → set_of cmp (xs ++ x ∷ ys) ≡ set_insert cmp x (set_of cmp (xs ++ ys))
  set-middle = sets.middle

  pub set_has-set_of : (x : X) (xs : List X) → set_has cmp x (set_of cmp xs) ≡ has cmp x xs
  set_has-set_of = sets.found

  pub set_of-IsStrictlySortedBy : (xs : List X) → IsStrictlySortedBy cmp (set_of cmp xs)
  set_of-IsStrictlySortedBy = sets.sorted

  pub has-set_insert : (z x : X) (ys : List X) → has cmp z (set_insert cmp x ys) ≡ (is_eq (cmp z x) || has cmp z ys)
  has-set_insert = sets.found_inserted

  pub set_insert-there : (x : X) (ys : List X) → set_has cmp x ys ≡ true → set_insert cmp x ys ≡ ys
  set_insert-there = sets.there

  pub set_insert-new : (x : X) (ys : List X) → set_has cmp x ys ≡ false → set_insert cmp x ys ≡ bag_insert cmp x ys
  set_insert-new = sets.new

-- WHAT THE MEMBERS GIVE
module _ {X Y : Type 0} (cmp : X → X → Ordering) (part_cmp : Y → Y → Ordering) (bags : BagLaws part_cmp) where
  given_more : (g : X → List Y) (x : X) (ys : List X) → bag_of part_cmp (flat_map g (bag_insert cmp x ys)) ≡ join part_cmp (g x) (bag_of part_cmp (flat_map g ys))
  given_more g x [] = bag_of-append part_cmp bags (g x) []
  given_more g x (y ∷ ys) = by (cmp x y) refl (given_more g x ys)
    where
      by : (r : Ordering) → cmp x y ≡ r → bag_of part_cmp (flat_map g (bag_insert cmp x ys)) ≡ join part_cmp (g x) (bag_of part_cmp (flat_map g ys))
          → bag_of part_cmp (flat_map g (bag_insert cmp x (y ∷ ys))) ≡ join part_cmp (g x) (bag_of part_cmp (flat_map g (y ∷ ys)))
      by Less e rest = ap (λ l. bag_of part_cmp (flat_map g l)) (insert_before_less cmp x y ys e) ∙ bag_of-append part_cmp bags (g x) (flat_map g (y ∷ ys))
      by Equal e rest = ap (λ l. bag_of part_cmp (flat_map g l)) (insert_before_equal cmp x y ys e) ∙ bag_of-append part_cmp bags (g x) (flat_map g (y ∷ ys))
      by Greater e rest =
          ap (λ l. bag_of part_cmp (flat_map g l)) (insert_past cmp x y ys e) ∙ bag_of-append part_cmp bags (g y) (flat_map g (bag_insert cmp x ys)) ∙ ap (join part_cmp (g y)) rest
          ∙ join-swap part_cmp bags (g y) (g x) (bag_of part_cmp (flat_map g ys)) ∙ ap (join part_cmp (g x)) (sym (bag_of-append part_cmp bags (g y) (flat_map g ys)))

  -- the members of a bag give what the elements of its list give
  pub given_by_bag : (g : X → List Y) (xs : List X) → bag_of part_cmp (flat_map g (bag_of cmp xs)) ≡ bag_of part_cmp (flat_map g xs)
  given_by_bag g [] = refl
  given_by_bag g (x ∷ xs) = given_more g x (bag_of cmp xs) ∙ ap (join part_cmp (g x)) (given_by_bag g xs) ∙ sym (bag_of-append part_cmp bags (g x) (flat_map g xs))

  pub mapped_bag : (f : X → Y) (xs : List X) → bag_of part_cmp (map f (bag_of cmp xs)) ≡ bag_of part_cmp (map f xs)
  mapped_bag f xs = ap (bag_of part_cmp) (sym (flat_map_single f (bag_of cmp xs))) ∙ given_by_bag (λ x. f x ∷ []) xs ∙ ap (bag_of part_cmp) (flat_map_single f xs)

  pub mapped_alike : (f : X → Y) (xs ys : List X) → bag_of cmp xs ≡ bag_of cmp ys → bag_of part_cmp (map f xs) ≡ bag_of part_cmp (map f ys)
  mapped_alike f xs ys h = sym (mapped_bag f xs) ∙ ap (λ l. bag_of part_cmp (map f l)) h ∙ mapped_bag f ys
