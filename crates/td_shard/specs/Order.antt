-- The order of numbered things: by their numbers, and those of one number as they stand.
use Rattle.std.specs.Prelude.{ℕ, zero, suc, ◌<◌, ◌==◌, nat_lt, max, cond, List, [], ◌∷◌, ◌++◌}
use Rattle.std.specs.List.{AllByRecursion}

module _ {X : Type 0} where
  -- those of a number
  abbrev pub at_number : ℕ → List (ℕ × X) → List X
  at_number n [] = []
  at_number n (x ∷ xs) = cond (x.0 == n) (x.1 ∷ at_number n xs) (at_number n xs)

  -- those of numbers below one, in the order of the numbers
  abbrev pub below : ℕ → List (ℕ × X) → List X
  below zero xs = []
  below (suc n) xs = below n xs ++ at_number n xs

  -- how many there are of numbers below one
  abbrev pub few : ℕ → List (ℕ × X) → ℕ
  few n [] = 0
  few n (x ∷ xs) = cond (nat_lt x.0 n) (suc (few n xs)) (few n xs)

  -- a number above all
  abbrev pub most : List (ℕ × X) → ℕ
  most [] = 0
  most (x ∷ xs) = max (suc x.0) (most xs)

  -- IN ORDER: all, by their numbers
  abbrev pub in_order : List (ℕ × X) → List X
  in_order xs = below (most xs) xs

  -- their numbers ascend
  abbrev pub AreAscending : List (ℕ × X) → Type 0
  AreAscending [] = Unit {0}
  AreAscending (x ∷ xs) = AllByRecursion (λ y. x.0 < y.0) xs × AreAscending xs
