-- What the code's own functions say of one another, step by step. No definition of a bag or of groups rests on these.
use Rattle.std.specs.Prelude.{ℕ, List, [], ◌∷◌, ◌++◌, replicate, Option, Some, None}
use Rattle.td_stamp.specs.declared.values.Item.{Item}

-- a member that stands some times more
abbrev pub repeats : {X : Type 0} → Option (X × ℕ) → List X
repeats None = []
repeats (Some p) = replicate p.1 p.0

-- the key of the last of some groups
abbrev pub last_key : List (ℕ × List Item) → Option ℕ
last_key [] = None
last_key (g ∷ []) = Some g.0
last_key (g ∷ h ∷ gs) = last_key (h ∷ gs)

-- the groups with one more item in the last of them
abbrev pub with_last_item : List (ℕ × List Item) → Item → List (ℕ × List Item)
with_last_item [] i = []
with_last_item (g ∷ []) i = (g.0, g.1 ++ i ∷ []) ∷ []
with_last_item (g ∷ h ∷ gs) i = g ∷ with_last_item (h ∷ gs) i
