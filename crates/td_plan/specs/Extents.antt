-- The blocks of a plan's loops, and which vertices stand in each.
use Rattle.std.specs.Prelude.{ℕ, ◌+◌, List, [], ◌∷◌, ◌++◌}
use Rattle.td_plan.specs.declared.extents.Block.{Block}
use Rattle.td_plan.specs.Lines.{Line}
use Rattle.td_plan.specs.Tree.{Nodes, size, tree_of}
use Rattle.td_plan.specs.Tree.Nodes.{done, node, block}

-- those of a tree whose first vertex has number n, in the order in which the loops begin
abbrev pub blocks_in : ℕ → Nodes → List Block
blocks_in n done = []
blocks_in n (node v rest) = blocks_in (n + 1) rest
blocks_in n (block bound body rest) = record { first = n; end = n + size body; bound = bound } ∷ blocks_in n body ++ blocks_in (n + size body) rest

abbrev pub blocks_of : List Line → List Block
blocks_of plan = blocks_in 0 (tree_of plan)
