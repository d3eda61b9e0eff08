-- Bags, sets and groups of what the elements of a list give do not depend on the order of the list.
use Rattle.std.proofs.Common.{◌≡◌, ◌==◌, List, [], ◌∷◌, ◌++◌, refl, ap, sym, ◌∙◌, Bool, true, false, cond, map, filter, flat_map}
use Rattle.std.proofs.lemmas.List.{append_assoc}
use Rattle.std.specs.declared.cmp.Ordering.{Ordering}
use Rattle.std.specs.declared.cmp.Ordering.TheVariants.{Less, Equal, Greater}
use Rattle.std.specs.Ordering.{nat_cmp}
use Rattle.std.specs.Cmp.{IsTotalOrder, nat_cmp_total}
use Rattle.std.specs.FinMap.{IsAntisymmetric, nat_cmp-IsAntisymmetric}
use Rattle.td_stamp.specs.declared.values.Arrival.{Arrival}
use Rattle.td_stamp.specs.Orders.{item_cmp, arrival_cmp}
use Rattle.td_stamp.specs.ProvedOrders.{item_total, item_apart}
use Rattle.td_stamp.specs.Bag.{bag_insert, set_insert, join, bag_of, set_of}
use Rattle.td_stamp.specs.Groups.{groups}
use Rattle.td_stamp.proofs.Bags.{insert_past, insert_before_less, insert_before_equal, join-swap, bag_of-append, bag_insert-bag_insert, set_insert-set_insert}

module _ {X Y : Type 0} (cmp : X → X → Ordering) (total : IsTotalOrder cmp) (same : IsAntisymmetric cmp) (cmp' : Y → Y → Ordering) (total' : IsTotalOrder cmp') (same' : IsAntisymmetric cmp') where
  -- one more member of a bag adds its part
  pub bag_of-flat_map-bag_insert : (parts : X → List Y) (x : X) (ys : List X) → bag_of cmp' (flat_map parts (bag_insert cmp x ys)) ≡ join cmp' (parts x) (bag_of cmp' (flat_map parts ys))
  bag_of-flat_map-bag_insert parts x [] = bag_of-append cmp' total' same' (parts x) []
  bag_of-flat_map-bag_insert parts x (y ∷ ys) = by (cmp x y) refl (bag_of-flat_map-bag_insert parts x ys)
    where
      by : (r : Ordering) → cmp x y ≡ r → bag_of cmp' (flat_map parts (bag_insert cmp x ys)) ≡ join cmp' (parts x) (bag_of cmp' (flat_map parts ys))
          → bag_of cmp' (flat_map parts (bag_insert cmp x (y ∷ ys))) ≡ join cmp' (parts x) (bag_of cmp' (parts y ++ flat_map parts ys))
      by Less e rest = ap (λ l. bag_of cmp' (flat_map parts l)) (insert_before_less cmp total same x y ys e) ∙ bag_of-append cmp' total' same' (parts x) (parts y ++ flat_map parts ys)
      by Equal e rest = ap (λ l. bag_of cmp' (flat_map parts l)) (insert_before_equal cmp total same x y ys e) ∙ bag_of-append cmp' total' same' (parts x) (parts y ++ flat_map parts ys)
      by Greater e rest =
          ap (λ l. bag_of cmp' (flat_map parts l)) (insert_past cmp total same x y ys e) ∙ bag_of-append cmp' total' same' (parts y) (flat_map parts (bag_insert cmp x ys)) ∙ ap (join cmp' (parts y)) rest
          ∙ join-swap cmp' total' same' (parts y) (parts x) (bag_of cmp' (flat_map parts ys)) ∙ ap (join cmp' (parts x)) (sym (bag_of-append cmp' total' same' (parts y) (flat_map parts ys)))

module _ {X Y : Type 0} (cmp : X → X → Ordering) (total : IsTotalOrder cmp) (same : IsAntisymmetric cmp) (f : Y → X) where
  -- a set of parts of the elements
  pub set_of-map-middle : (xs : List Y) (a : Y) (ys : List Y) → set_of cmp (map f (xs ++ a ∷ ys)) ≡ set_of cmp (map f (a ∷ xs ++ ys))
  set_of-map-middle [] a ys = refl
  set_of-map-middle (w ∷ xs) a ys = ap (set_insert cmp (f w)) (set_of-map-middle xs a ys) ∙ set_insert-set_insert cmp total same (f w) (f a) (set_of cmp (map f (xs ++ ys)))

  module _ (p : Y → Bool) where
    -- a bag of parts of the elements that pass
    bag_of_passing : List Y → List X
    bag_of_passing ys = bag_of cmp (map f (filter p ys))

    -- one more, where it passes
    with_one : Bool → Y → List X → List X
    with_one true y zs = bag_insert cmp (f y) zs
    with_one false y zs = zs

    passing-cons : (y : Y) (ys : List Y) → bag_of_passing (y ∷ ys) ≡ with_one (p y) y (bag_of_passing ys)
    unfolding bag_of_passing with_one
    passing-cons y ys = elim (p y) as (λ b. bag_of cmp (map f (cond b (y ∷ filter p ys) (filter p ys))) ≡ with_one b y (bag_of cmp (map f (filter p ys)))) [ true ↦ refl | false ↦ refl ]

    with_one_swaps : (b c : Bool) (x y : Y) (zs : List X) → with_one b x (with_one c y zs) ≡ with_one c y (with_one b x zs)
    unfolding with_one
    with_one_swaps true true x y zs = bag_insert-bag_insert cmp total same (f x) (f y) zs
    with_one_swaps true false x y zs = refl
    with_one_swaps false true x y zs = refl
    with_one_swaps false false x y zs = refl

    passing-middle : (xs : List Y) (a : Y) (ys : List Y) → bag_of_passing (xs ++ a ∷ ys) ≡ bag_of_passing (a ∷ xs ++ ys)
    passing-middle [] a ys = refl
    passing-middle (w ∷ xs) a ys =
        passing-cons w (xs ++ a ∷ ys) ∙ ap (with_one (p w) w) (passing-middle xs a ys ∙ passing-cons a (xs ++ ys)) ∙ with_one_swaps (p w) (p a) w a (bag_of_passing (xs ++ ys))
        ∙ sym (passing-cons a (w ∷ xs ++ ys) ∙ ap (with_one (p a) a) (passing-cons w (xs ++ ys)))

    pub bag_of-filter-middle : (xs : List Y) (a : Y) (ys : List Y) → bag_of cmp (map f (filter p (xs ++ a ∷ ys))) ≡ bag_of cmp (map f (filter p (a ∷ xs ++ ys)))
    unfolding bag_of_passing
    bag_of-filter-middle = passing-middle

-- what arrived may have arrived in any order
pub groups-middle : (xs : List Arrival) (a : Arrival) (ys : List Arrival) → groups (xs ++ a ∷ ys) ≡ groups (a ∷ xs ++ ys)
groups-middle xs a ys =
    λ i. map (λ key. (key, bag_of-filter-middle item_cmp item_total item_apart (λ (x : Arrival). x.item) (λ b. b.key == key) xs a ys i)) (set_of-map-middle nat_cmp nat_cmp_total nat_cmp-IsAntisymmetric (λ (b : Arrival). b.key) xs a ys i)

-- an arrival put into a sorted list of arrivals may as well come before it, whatever comes before them
groups-insert : (before : List Arrival) (a : Arrival) (zs : List Arrival) → groups (before ++ bag_insert arrival_cmp a zs) ≡ groups (before ++ a ∷ zs)
groups-insert before a [] = refl
groups-insert before a (y ∷ ys) = by (arrival_cmp a y) (groups-insert (before ++ y ∷ []) a ys)
  where
    by : (s : Ordering) → groups ((before ++ y ∷ []) ++ bag_insert arrival_cmp a ys) ≡ groups ((before ++ y ∷ []) ++ a ∷ ys)
        → groups (before ++ elim s [ Greater ↦ y ∷ bag_insert arrival_cmp a ys | _ ↦ a ∷ y ∷ ys ]) ≡ groups (before ++ a ∷ y ∷ ys)
    by Less h = refl
    by Equal h = refl
    by Greater h =
        ap groups (sym (append_assoc before (y ∷ []) (bag_insert arrival_cmp a ys))) ∙ h ∙ groups-middle (before ++ y ∷ []) a ys
        ∙ ap (λ l. groups (a ∷ l)) (append_assoc before (y ∷ []) ys) ∙ sym (groups-middle before a (y ∷ ys))

-- the groups of arrivals are those of their bag
groups-before : (before xs : List Arrival) → groups (before ++ bag_of arrival_cmp xs) ≡ groups (before ++ xs)
groups-before before [] = refl
groups-before before (x ∷ xs) =
    groups-insert before x (bag_of arrival_cmp xs) ∙ ap groups (sym (append_assoc before (x ∷ []) (bag_of arrival_cmp xs))) ∙ groups-before (before ++ x ∷ []) xs
    ∙ ap groups (append_assoc before (x ∷ []) xs)

pub groups-of_bag : (xs : List Arrival) → groups (bag_of arrival_cmp xs) ≡ groups xs
groups-of_bag xs = groups-before [] xs
