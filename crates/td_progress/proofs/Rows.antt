-- The places of a plan by number, and the rows of those that lead to one.
use Rattle.std.proofs.Common.{◌≡◌, ℕ, zero, suc, ◌+◌, ◌-◌, ◌<◌, Bool, true, false, cond, List, [], ◌∷◌, ◌++◌, length, map, filter, slice_get, Some, refl, ap, ◌∙◌, arith, nat_lt}
use Rattle.std.specs.List.{range_with_len}
use Rattle.std.proofs.lemmas.Bool.Decides.{nat_tests}
use Rattle.std.proofs.lemmas.Option.{slice_get-get_or}
use Rattle.std.proofs.lemmas.List.FromFn.{length-map-range_with_len, get_or-map-range_with_len}
use Rattle.std.proofs.lemmas.List.Elements.{filter-append}
use Rattle.td_plan.specs.Lines.{Line}
use Rattle.td_plan.specs.Blocks.{vertices}
use Rattle.td_reach.specs.declared.stamp.Place.{Place}
use Rattle.td_reach.specs.declared.stamp.Place.TheVariants as places
use Rattle.td_reach.specs.Paths.{HasPlace}
use Rattle.td_progress.specs.Ways.{place_at, number_of}
use Rattle.td_progress.proofs.Counted.{none_is_some}

-- what stands within a list
pub some_within : {X : Type 0} (xs : List X) (i : ℕ) → i < length xs → (x : X) × (slice_get xs i ≡ Some x)
some_within [] i h = absurd (omega (arith, h))
some_within (x ∷ xs) zero h = (x, refl)
some_within (x ∷ xs) (suc i) h = some_within xs i (omega (arith, h))

pub within_some : {X : Type 0} (xs : List X) (i : ℕ) (x : X) → slice_get xs i ≡ Some x → i < length xs
within_some [] i x h = absurd (none_is_some h)
within_some (y ∷ xs) zero x h = omega arith
within_some (y ∷ xs) (suc i) x h = let r = within_some xs i x h in omega (arith, r)

pub append-nil : {X : Type 0} (xs : List X) → xs ++ [] ≡ xs
append-nil [] = refl
append-nil (x ∷ xs) = ap (λ r. x ∷ r) (append-nil xs)

last_number : (a n j : ℕ) → a + n ≡ j → range_with_len a (suc n) ≡ range_with_len a n ++ j ∷ []
last_number a zero j e = let same : a ≡ j = omega (arith, e) in ap (λ k. k ∷ []) same
last_number a (suc n) j e = ap (λ r. a ∷ r) (last_number (a + 1) n j (omega (arith, e)))

pub range_more : (a n j : ℕ) → a + n ≡ j → range_with_len a (n + 1) ≡ range_with_len a n ++ j ∷ []
range_more a n j e = let on : n + 1 ≡ suc n = omega arith in ap (range_with_len a) on ∙ last_number a n j e

-- a row with one number more
pub row_more : (t : ℕ → Bool) (i : ℕ) → filter t (range_with_len 0 (i + 1)) ≡ filter t (range_with_len 0 i) ++ cond (t i) (i ∷ []) []
row_more t i = ap (filter t) (range_more 0 i i (omega arith)) ∙ filter-append t (range_with_len 0 i) (i ∷ [])

-- what a list made of numbers has at one
pub listed_at : {X : Type 0} (f : ℕ → X) (n i : ℕ) → i < n → slice_get (map f (range_with_len 0 n)) i ≡ Some (f i)
listed_at f n i h =
    let at : i < length (map f (range_with_len 0 n)) = omega (arith, h, length-map-range_with_len f 0 n) in
    slice_get-get_or (map f (range_with_len 0 n)) i (f i) at ∙ ap Some (get_or-map-range_with_len f 0 n i i (f i) h (omega arith))

module _ (plan : List Line) where
  -- the number of a place, and the place of that number
  pub same_place : (place : Place) → HasPlace plan place → place_at plan (number_of plan place) ≡ place
  same_place (places.Vertex v) h = ap (λ b. cond b (places.Vertex v) (places.Edge (v - length (vertices plan)))) is
    where
      is : nat_lt v (length (vertices plan)) ≡ true
      is = grind (arith, nat_tests, h)
  same_place (places.Edge e) h = ap (λ b. cond b (places.Vertex n) (places.Edge (n - length (vertices plan)))) is ∙ ap places.Edge (omega arith)
    where
      n : ℕ
      n = length (vertices plan) + e

      is : nat_lt n (length (vertices plan)) ≡ false
      is = grind (arith, nat_tests)
