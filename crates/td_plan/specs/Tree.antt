-- A plan as a tree: what stands in a loop is a part of it.
use Rattle.std.specs.Prelude.{◌≡◌, ℕ, ◌+◌, List, [], ◌∷◌, ◌++◌}
use Rattle.td_plan.specs.declared.vertex.Loop.{Loop}
use Rattle.td_plan.specs.Blocks.{PlacedVertex}
use Rattle.td_plan.specs.Lines.{Vertex, Line}
use Rattle.td_plan.specs.Lines.Line.{vertex, loop, end}

-- The vertices and loops of a block, in order
pub data Nodes : Type 0 where
  done : Nodes
  node : Vertex → Nodes → Nodes
  block : ℕ → Nodes → Nodes → Nodes

-- The lines of a plan from some line on, as parts of a tree: what stands in the block where they begin, up to its
-- end; and what follows the end of that block, of the block around it, and so on, the innermost first
pub record Rest : Type 0 where
  pub inside : Nodes
  pub after : List Nodes

abbrev pub opened : ℕ → Rest → Rest
opened bound r = elim r.after [ [] ↦ record { inside = block bound r.inside done; after = [] } | next ∷ outer ↦ record { inside = block bound r.inside next; after = outer } ]

abbrev pub rest_of : List Line → Rest
rest_of [] = record { inside = done; after = [] }
rest_of (vertex v ∷ lines) = record (rest_of lines) { inside = node v (rest_of lines).inside }
rest_of (loop bound ∷ lines) = opened bound (rest_of lines)
rest_of (end ∷ lines) = record { inside = done; after = (rest_of lines).inside ∷ (rest_of lines).after }

abbrev pub tree_of : List Line → Nodes
tree_of plan = (rest_of plan).inside

-- the lines of a tree, and back
abbrev pub lines_of : Nodes → List Line
lines_of done = []
lines_of (node v rest) = vertex v ∷ lines_of rest
lines_of (block bound body rest) = loop bound ∷ lines_of body ++ end ∷ lines_of rest

-- how many vertices stand in it
abbrev pub size : Nodes → ℕ
size done = 0
size (node v rest) = 1 + size rest
size (block bound body rest) = size body + size rest

-- the vertices of a tree in order, with the loops in which they stand, from number n on
abbrev pub placed_in : List Loop → ℕ → Nodes → List PlacedVertex
placed_in loops n done = []
placed_in loops n (node v rest) = record { vertex = v; loops = loops } ∷ placed_in loops (n + 1) rest
placed_in loops n (block bound body rest) = placed_in (record { first = n; bound = bound } ∷ loops) n body ++ placed_in loops (n + size body) rest

-- the numbers count up from n
abbrev pub IsNumbered : ℕ → Nodes → Type 0
IsNumbered n done = Unit {0}
IsNumbered n (node v rest) = (v.number ≡ n) × IsNumbered (n + 1) rest
IsNumbered n (block bound body rest) = IsNumbered n body × IsNumbered (n + size body) rest
