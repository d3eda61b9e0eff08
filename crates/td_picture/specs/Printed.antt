-- Lines as they are printed one by one, in the words of private functions. No public contract cites this file.
use Rattle.std.specs.Prelude.{◌≡◌, ℕ, ◌+◌, List, ◌∷◌, ◌++◌}
use Rattle.td_plan.specs.declared.mark.Mark.{Mark}
use Rattle.td_plan.specs.declared.mark.Mark.TheVariants.{Loop}
use Rattle.td_plan.specs.Blocks.{PlacedVertex}
use Rattle.td_plan.specs.Marks.{lines_of_marks}
use Rattle.td_picture.specs.Words.{Text}
use Rattle.td_picture.specs.Listed.{listing_of}
use Rattle.td_picture.specs.Drawn.{nodes_of}

-- the bytes before and after the line of a mark: whatever marks follow, with the vertices that are left
abbrev pub IsListed : Text → Text → Mark → List PlacedVertex → List PlacedVertex → Type 0
IsListed before after mark placed left =
    (marks : List Mark) → after ++ listing_of (lines_of_marks marks left) ≡ before ++ listing_of (lines_of_marks (mark ∷ marks) placed)

-- the number of the next loop after a line
abbrev pub next_number : ℕ → Mark → ℕ
next_number n (Loop bound) = n + 1
next_number n _ = n

-- the same in a picture, where the next loop has number n
abbrev pub IsDrawn : Text → Text → ℕ → Mark → List PlacedVertex → List PlacedVertex → Type 0
IsDrawn before after n mark placed left =
    (marks : List Mark) → after ++ nodes_of (next_number n mark) (lines_of_marks marks left) ≡ before ++ nodes_of n (lines_of_marks (mark ∷ marks) placed)
