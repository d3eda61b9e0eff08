-- Filters, membership and members of bags and sets, over any total order in which only equal members tie.
use Rattle.std.proofs.Common.{◌≡◌, suc, ◌⊎◌, inl, inr, List, [], ◌∷◌, filter, arith, refl, ap, sym, ◌∙◌, subst, Bool, true, false, ◌||◌, cond}
use Rattle.std.specs.List.{AllByRecursion, Contains}
use Rattle.std.specs.declared.cmp.Ordering.{Ordering}
use Rattle.std.specs.declared.cmp.Ordering.TheVariants.{Less, Equal, Greater}
use Rattle.std.specs.Ordering.{is_eq}
use Rattle.std.specs.Cmp.{IsTotalOrder}
use Rattle.std.specs.FinMap.{IsAntisymmetric}
use Rattle.td_stamp.specs.Bag.{bag_insert, set_insert, set_has, join, bag_of, has, IsBag}
use Rattle.td_stamp.specs.BagLaws.{BagLaws, SetLaws}
use Rattle.td_stamp.proofs.Bags.{insert_past, insert_before_less, insert_before_equal, set_insert_past, set_insert_less, set_insert_equal, set_has_less, set_has_equal, set_has_past, join-IsBag, join-assoc, join-swap, join-append, join-middle, join_cancel, bag_remove-bag_insert, has-bag_insert, length-join, set-middle, set_insert-set_insert, set_has-set_of}
use Rattle.td_stamp.proofs.Rising.{all_weaker, IsBag-filter, IsBag-from_Rises, Rises-from_IsBag}
use Rattle.td_stamp.proofs.SameSets.{same_members}
use Rattle.td_stamp.proofs.Sets.{all_set_insert, all_set_of, set_of-IsStrictlySortedBy}

-- a list has each of its elements
contains_itself : {X : Type 0} (xs : List X) → AllByRecursion (Contains xs) xs
contains_itself [] = tt
contains_itself (x ∷ xs) = ((0, omega arith, refl), all_weaker (Contains xs) (Contains (x ∷ xs)) (λ y c. (suc c.0, (let lt = c.1 in omega (arith, lt)), c.2)) xs (contains_itself xs))

or_swap : (a b c : Bool) → (a || (b || c)) ≡ (b || (a || c))
or_swap true true c = refl
or_swap true false c = refl
or_swap false b c = refl

or_twice : (a b : Bool) → (a || b) ≡ (a || (a || b))
or_twice true b = refl
or_twice false b = refl

module _ {X : Type 0} (cmp : X → X → Ordering) (total : IsTotalOrder cmp) (same : IsAntisymmetric cmp) where
  -- FILTERS
  -- the bag of what passes, of an element and the rest
  bag_of_passing : (p : X → Bool) (x : X) (ys : List X) → bag_of cmp (filter p (x ∷ ys)) ≡ join cmp (filter p (x ∷ [])) (bag_of cmp (filter p ys))
  bag_of_passing p x ys = by (p x)
    where
      by : (b : Bool) → bag_of cmp (cond b (x ∷ filter p ys) (filter p ys)) ≡ join cmp (cond b (x ∷ []) []) (bag_of cmp (filter p ys))
      by true = refl
      by false = refl

  passing_inserted : (p : X → Bool) (x : X) (ys : List X) → bag_of cmp (filter p (bag_insert cmp x ys)) ≡ bag_of cmp (filter p (x ∷ ys))
  passing_inserted p x [] = refl
  passing_inserted p x (y ∷ ys) = by (cmp x y) refl (passing_inserted p x ys)
    where
      by : (r : Ordering) → cmp x y ≡ r → bag_of cmp (filter p (bag_insert cmp x ys)) ≡ bag_of cmp (filter p (x ∷ ys)) → bag_of cmp (filter p (bag_insert cmp x (y ∷ ys))) ≡ bag_of cmp (filter p (x ∷ y ∷ ys))
      by Less e rest = ap (λ l. bag_of cmp (filter p l)) (insert_before_less cmp total same x y ys e)
      by Equal e rest = ap (λ l. bag_of cmp (filter p l)) (insert_before_equal cmp total same x y ys e)
      by Greater e rest =
          ap (λ l. bag_of cmp (filter p l)) (insert_past cmp total same x y ys e)
          ∙ bag_of_passing p y (bag_insert cmp x ys) ∙ ap (join cmp (filter p (y ∷ []))) (rest ∙ bag_of_passing p x ys)
          ∙ join-swap cmp total same (filter p (y ∷ [])) (filter p (x ∷ [])) (bag_of cmp (filter p ys))
          ∙ ap (join cmp (filter p (x ∷ []))) (sym (bag_of_passing p y ys)) ∙ sym (bag_of_passing p x (y ∷ ys))

  passing_apart : (p : X → Bool) (x : X) (xs zs : List X) → join cmp (filter p (x ∷ xs)) zs ≡ join cmp (filter p (x ∷ [])) (join cmp (filter p xs) zs)
  passing_apart p x xs zs = by (p x)
    where
      by : (b : Bool) → join cmp (cond b (x ∷ filter p xs) (filter p xs)) zs ≡ join cmp (cond b (x ∷ []) []) (join cmp (filter p xs) zs)
      by true = refl
      by false = refl

  passing_joined : (p : X → Bool) (xs ys : List X) → bag_of cmp (filter p (join cmp xs ys)) ≡ join cmp (filter p xs) (bag_of cmp (filter p ys))
  passing_joined p [] ys = refl
  passing_joined p (x ∷ xs) ys =
      passing_inserted p x (join cmp xs ys) ∙ bag_of_passing p x (join cmp xs ys) ∙ ap (join cmp (filter p (x ∷ []))) (passing_joined p xs ys)
      ∙ sym (passing_apart p x xs (bag_of cmp (filter p ys)))

  pub filter-join : (p : X → Bool) (xs ys : List X) → IsBag cmp ys → filter p (join cmp xs ys) ≡ join cmp (filter p xs) (filter p ys)
  filter-join p xs ys b =
      sym (IsBag-filter cmp total same p (join cmp xs ys) (join-IsBag cmp total same xs ys b)) ∙ passing_joined p xs ys ∙ ap (join cmp (filter p xs)) (IsBag-filter cmp total same p ys b)

  -- MEMBERSHIP
  pub has-set_insert : (z x : X) (ys : List X) → has cmp z (set_insert cmp x ys) ≡ (is_eq (cmp z x) || has cmp z ys)
  has-set_insert z x [] = refl
  has-set_insert z x (y ∷ ys) = by (cmp x y) refl (has-set_insert z x ys)
    where
      by : (r : Ordering) → cmp x y ≡ r → has cmp z (set_insert cmp x ys) ≡ (is_eq (cmp z x) || has cmp z ys) → has cmp z (set_insert cmp x (y ∷ ys)) ≡ (is_eq (cmp z x) || has cmp z (y ∷ ys))
      by Less e rest = ap (has cmp z) (set_insert_less cmp total same x y ys e)
      by Equal e rest = ap (has cmp z) (set_insert_equal cmp total same x y ys e) ∙ subst (λ w. has cmp z (y ∷ ys) ≡ (is_eq (cmp z w) || has cmp z (y ∷ ys))) (sym (same x y e)) (or_twice (is_eq (cmp z y)) (has cmp z ys))
      by Greater e rest = ap (has cmp z) (set_insert_past cmp total same x y ys e) ∙ ap (λ b. is_eq (cmp z y) || b) rest ∙ or_swap (is_eq (cmp z y)) (is_eq (cmp z x)) (has cmp z ys)

  -- an element put into a set: it is there, or it is new
  pub set_insert-there : (x : X) (ys : List X) → set_has cmp x ys ≡ true → set_insert cmp x ys ≡ ys
  set_insert-there x [] h = cc
  set_insert-there x (y ∷ ys) h = by (cmp x y) refl (set_insert-there x ys)
    where
      by : (r : Ordering) → cmp x y ≡ r → (set_has cmp x ys ≡ true → set_insert cmp x ys ≡ ys) → set_insert cmp x (y ∷ ys) ≡ y ∷ ys
      by Less e rest = let no : true ≡ false = sym h ∙ set_has_less cmp total same x y ys e in cc
      by Equal e rest = set_insert_equal cmp total same x y ys e
      by Greater e rest = set_insert_past cmp total same x y ys e ∙ ap (λ l. y ∷ l) (rest (sym (set_has_past cmp total same x y ys e) ∙ h))

  pub set_insert-new : (x : X) (ys : List X) → set_has cmp x ys ≡ false → set_insert cmp x ys ≡ bag_insert cmp x ys
  set_insert-new x [] h = refl
  set_insert-new x (y ∷ ys) h = by (cmp x y) refl (set_insert-new x ys)
    where
      by : (r : Ordering) → cmp x y ≡ r → (set_has cmp x ys ≡ false → set_insert cmp x ys ≡ bag_insert cmp x ys) → set_insert cmp x (y ∷ ys) ≡ bag_insert cmp x (y ∷ ys)
      by Less e rest = set_insert_less cmp total same x y ys e ∙ sym (insert_before_less cmp total same x y ys e)
      by Equal e rest = let no : false ≡ true = sym h ∙ set_has_equal cmp total same x y ys e in cc
      by Greater e rest = set_insert_past cmp total same x y ys e ∙ ap (λ l. y ∷ l) (rest (sym (set_has_past cmp total same x y ys e) ∙ h)) ∙ sym (insert_past cmp total same x y ys e)

  -- ALL OF THEM
  pub bag_laws : BagLaws cmp
  bag_laws = record {
    associative = join-assoc cmp total same;
    swaps = join-swap cmp total same;
    append = join-append cmp total same;
    middle = join-middle cmp total same;
    cancels = join_cancel cmp total same;
    removes = bag_remove-bag_insert cmp total same;
    found = has-bag_insert cmp total same;
    size = length-join cmp;
    filtered = IsBag-filter cmp total same;
    filtered_join = filter-join;
    rises = λ xs. (Rises-from_IsBag cmp total same xs, IsBag-from_Rises cmp total same xs);
  }

  pub set_laws : SetLaws cmp
  set_laws = record {
    middle = set-middle cmp total same;
    swaps = set_insert-set_insert cmp total same;
    found = set_has-set_of cmp total same;
    found_inserted = has-set_insert;
    there = set_insert-there;
    new = set_insert-new;
    sorted = set_of-IsStrictlySortedBy cmp total same;
    inserted = λ x ys. all_set_insert cmp total same (λ z. (z ≡ x) ⊎ Contains ys z) x ys (inl refl) (all_weaker (Contains ys) (λ z. (z ≡ x) ⊎ Contains ys z) (λ z c. inr c) ys (contains_itself ys));
    members = λ xs. all_set_of cmp total same (Contains xs) xs (contains_itself xs);
    alike = same_members cmp total same;
  }
