-- Lists that are kept end to end, and where each of them ends.
use Rattle.std.specs.Prelude.{◌≡◌, ℕ, zero, suc, ◌≤◌, List, [], ◌∷◌, ◌++◌, slice_range}

-- the lists, of which the first begins at a place
abbrev pub cut : {X : Type 0} → ℕ → List ℕ → List X → List (List X)
cut start [] all = []
cut start (end ∷ ends) all = slice_range all start end ∷ cut end ends all

-- whether each list ends where it begins or later, and the last at the end of all
abbrev pub EndsAt : ℕ → List ℕ → ℕ → Type 0
EndsAt start [] length = start ≡ length
EndsAt start (end ∷ ends) length = (start ≤ end) × EndsAt end ends length

-- where the list at a place begins
abbrev pub start_of : ℕ → ℕ → List ℕ → ℕ
start_of start zero ends = start
start_of start (suc i) [] = start
start_of start (suc i) (end ∷ ends) = start_of end i ends

-- Lists, and the room for more of them: for so many lists, and for so many members of all of them
pub record Roomy (X : Type 0) : Type 0 where
  pub lists : List (List X)
  pub more_lists : ℕ
  pub more_members : ℕ

-- lists with one more member in the last of them
abbrev pub with_last : {X : Type 0} → List (List X) → X → List (List X)
with_last [] x = []
with_last (list ∷ []) x = (list ++ x ∷ []) ∷ []
with_last (list ∷ next ∷ lists) x = list ∷ with_last (next ∷ lists) x
