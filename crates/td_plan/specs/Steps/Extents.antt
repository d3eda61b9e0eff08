-- The blocks that are found from the last line of a plan on.
use Rattle.std.specs.Prelude.{◌≡◌, ℕ, ◌+◌, List, [], ◌∷◌}
use Rattle.td_plan.specs.declared.extents.Part.{Part}
use Rattle.td_plan.specs.declared.extents.Found.{Found}
use Rattle.td_plan.specs.Extents.{blocks_in}
use Rattle.td_plan.specs.Tree.{Nodes, Rest, size}

-- the blocks of a tree whose first vertex has number n, and the number after its last
pub record IsPart (n : ℕ) (nodes : Nodes) (part : Part) : Type 0 where
  pub blocks : part.blocks.items ≡ blocks_in n nodes
  pub end : part.end ≡ n + size nodes

-- of trees that follow one another
abbrev pub AreParts : ℕ → List Nodes → List Part → Type 0
AreParts n [] [] = Unit {0}
AreParts n [] (p ∷ ps) = ⊥
AreParts n (t ∷ ts) [] = ⊥
AreParts n (t ∷ ts) (p ∷ ps) = IsPart n t p × AreParts (n + size t) ts ps

-- of what lines make of a tree, with n vertices before them
pub record IsFound (n : ℕ) (rest : Rest) (found : Found) : Type 0 where
  pub inside : IsPart n rest.inside found.inside
  pub after : AreParts (n + size rest.inside) rest.after found.after.items
