-- A text as it is printed, word by word.
use Rattle.std.specs.Prelude.{◌≡◌, ℕ, List, [], ◌∷◌, ◌++◌}
use Rattle.td_plan.specs.declared.mark.Mark.{Mark}
use Rattle.td_plan.specs.Lines.{text_of}
use Rattle.td_plan.specs.Blocks.{PlacedVertex}
use Rattle.td_plan.specs.Marks.{lines_of_marks}

-- words, each after a space
abbrev pub spaced : List (List ℕ) → List ℕ
spaced [] = []
spaced (word ∷ words) = (32 ∷ word) ++ spaced words

-- the bytes before and after the line of a mark: whatever marks follow, with the vertices that are left
abbrev pub IsPrinted : List ℕ → List ℕ → Mark → List PlacedVertex → List PlacedVertex → Type 0
IsPrinted before after mark placed left =
    (marks : List Mark) → after ++ text_of (lines_of_marks marks left) ≡ before ++ text_of (lines_of_marks (mark ∷ marks) placed)
