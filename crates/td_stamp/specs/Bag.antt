-- Bags: finite lists whose order has no meaning and whose repeats count. A bag is kept as its sorted list, so two
-- bags are equal exactly when their lists are.
use Rattle.std.specs.Prelude.{◌≡◌, ℕ, List, [], ◌∷◌, ◌++◌, replicate, Bool, true, false, ◌||◌}
use Rattle.std.specs.declared.cmp.Ordering.{Ordering}
use Rattle.std.specs.declared.cmp.Ordering.TheVariants.{Less, Equal, Greater}
use Rattle.std.specs.Ordering.{is_eq}

module _ {X : Type 0} (cmp : X → X → Ordering) where
  -- the bag xs with one more x: x goes before the first member that is not below it
  abbrev pub bag_insert : X → List X → List X
  bag_insert x [] = x ∷ []
  bag_insert x (y ∷ ys) = elim (cmp x y) [ Greater ↦ y ∷ bag_insert x ys | _ ↦ x ∷ y ∷ ys ]

  -- the set xs with x in it, which stands in it once
  abbrev pub set_insert : X → List X → List X
  set_insert x [] = x ∷ []
  set_insert x (y ∷ ys) = elim (cmp x y) [ Less ↦ x ∷ y ∷ ys | Equal ↦ y ∷ ys | Greater ↦ y ∷ set_insert x ys ]

  -- the bag xs without one x, where it has one
  abbrev pub bag_remove : X → List X → List X
  bag_remove x [] = []
  bag_remove x (y ∷ ys) = elim (cmp x y) [ Equal ↦ ys | _ ↦ y ∷ bag_remove x ys ]

  -- two bags put together
  abbrev pub join : List X → List X → List X
  join [] ys = ys
  join (x ∷ xs) ys = bag_insert x (join xs ys)

  -- the bag of the elements of a list: its sorted list
  abbrev pub bag_of : List X → List X
  bag_of xs = join xs []

  -- the set of the elements of a list: each once, in order
  abbrev pub set_of : List X → List X
  set_of [] = []
  set_of (x ∷ xs) = set_insert x (set_of xs)

  -- whether x is in a list
  abbrev pub has : X → List X → Bool
  has x [] = false
  has x (y ∷ ys) = is_eq (cmp x y) || has x ys

  -- whether x is in a set
  abbrev pub set_has : X → List X → Bool
  set_has x [] = false
  set_has x (y ∷ ys) = elim (cmp x y) [ Less ↦ false | Equal ↦ true | Greater ↦ set_has x ys ]

  -- a list that is a bag: it is sorted
  abbrev pub IsBag : List X → Type 0
  IsBag xs = bag_of xs ≡ xs

-- the members of a bag that is kept as pairs of a member and how often it stands in it
abbrev pub members : {X : Type 0} → List (X × ℕ) → List X
members [] = []
members (e ∷ es) = replicate e.1 e.0 ++ members es
