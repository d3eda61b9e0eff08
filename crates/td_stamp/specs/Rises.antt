-- Lists that rise: no element is above a later one. They are the bags.
use Rattle.std.specs.Prelude.{◌≡◌, List, [], ◌∷◌, false}
use Rattle.std.specs.List.{AllByRecursion}
use Rattle.std.specs.declared.cmp.Ordering.{Ordering}
use Rattle.std.specs.Ordering.{is_gt}

module _ {X : Type 0} (cmp : X → X → Ordering) where
  -- x is above none of these
  abbrev pub IsBelowAll : X → List X → Type 0
  IsBelowAll x ys = AllByRecursion (λ y. is_gt (cmp x y) ≡ false) ys

  -- no element is above a later one
  abbrev pub Rises : List X → Type 0
  Rises [] = Unit {0}
  Rises (x ∷ xs) = IsBelowAll x xs × Rises xs
