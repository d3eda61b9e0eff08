-- What holds of bags and sets over any total order in which only equal members tie, also of members that no code has. They are
-- one record, so that a proof takes one hypothesis for each order. No clause can speak of every predicate: that a set has no
-- other members is said by `Contains`.
use Rattle.std.specs.Prelude.{◌≡◌, ◌+◌, ◌⊎◌, ◌↔◌, ◌++◌, ◌∷◌, ◌||◌, Bool, true, false, List, filter, length}
use Rattle.std.specs.List.{AllByRecursion, Contains}
use Rattle.std.specs.List.Sorted.{IsStrictlySortedBy}
use Rattle.std.specs.declared.cmp.Ordering.{Ordering}
use Rattle.std.specs.Ordering.{is_eq}
use Rattle.td_stamp.specs.Bag.{bag_insert, bag_remove, set_insert, set_has, join, set_of, has, IsBag}
use Rattle.td_stamp.specs.Rises.{Rises}

module _ {X : Type 0} (cmp : X → X → Ordering) where
  -- Of bags. The bag of a list is its join with nothing, and the bag with one more is the join of that one with the bag
  pub record BagLaws : Type 0 where
    -- joins of three, which need be no bags
    pub associative : (x y z : List X) → join cmp (join cmp x y) z ≡ join cmp x (join cmp y z)
    pub swaps : (x y z : List X) → join cmp x (join cmp y z) ≡ join cmp y (join cmp x z)
    pub append : (x y z : List X) → join cmp (x ++ y) z ≡ join cmp x (join cmp y z)
    -- an element may as well be joined last
    pub middle : (xs : List X) (x : X) (ys zs : List X) → join cmp (xs ++ x ∷ ys) zs ≡ bag_insert cmp x (join cmp (xs ++ ys) zs)
    pub cancels : (x y z : List X) → join cmp x y ≡ join cmp x z → y ≡ z
    pub removes : (x : X) (ys : List X) → bag_remove cmp x (bag_insert cmp x ys) ≡ ys
    pub found : (z x : X) (ys : List X) → has cmp z (bag_insert cmp x ys) ≡ (is_eq (cmp z x) || has cmp z ys)
    pub size : (x y : List X) → length (join cmp x y) ≡ length x + length y
    -- what passes a test of a bag is a bag, and of a join the join of what passes
    pub filtered : (p : X → Bool) (xs : List X) → IsBag cmp xs → IsBag cmp (filter p xs)
    pub filtered_join : (p : X → Bool) (xs ys : List X) → IsBag cmp ys → filter p (join cmp xs ys) ≡ join cmp (filter p xs) (filter p ys)
    -- the bags are the lists that rise
    pub rises : (xs : List X) → IsBag cmp xs ↔ Rises cmp xs

  -- Of sets
  pub record SetLaws : Type 0 where
    -- an element may as well be put in last
    pub middle : (xs : List X) (x : X) (ys : List X) → set_of cmp (xs ++ x ∷ ys) ≡ set_insert cmp x (set_of cmp (xs ++ ys))
    pub swaps : (x y : X) (zs : List X) → set_insert cmp x (set_insert cmp y zs) ≡ set_insert cmp y (set_insert cmp x zs)
    pub found : (x : X) (xs : List X) → set_has cmp x (set_of cmp xs) ≡ has cmp x xs
    pub found_inserted : (z x : X) (ys : List X) → has cmp z (set_insert cmp x ys) ≡ (is_eq (cmp z x) || has cmp z ys)
    -- one that is there already changes nothing, and one that is new stands there as in a bag
    pub there : (x : X) (ys : List X) → set_has cmp x ys ≡ true → set_insert cmp x ys ≡ ys
    pub new : (x : X) (ys : List X) → set_has cmp x ys ≡ false → set_insert cmp x ys ≡ bag_insert cmp x ys
    pub sorted : (xs : List X) → IsStrictlySortedBy cmp (set_of cmp xs)
    -- nothing else stands there
    pub inserted : (x : X) (ys : List X) → AllByRecursion (λ z. (z ≡ x) ⊎ Contains ys z) (set_insert cmp x ys)
    pub members : (xs : List X) → AllByRecursion (Contains xs) (set_of cmp xs)
    -- and sets with the same members are the same
    pub alike : (xs ys : List X) → IsStrictlySortedBy cmp xs → IsStrictlySortedBy cmp ys → ((z : X) → has cmp z xs ≡ has cmp z ys) → xs ≡ ys
