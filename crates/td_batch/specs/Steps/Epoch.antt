-- What the evaluator knows of the tree that it walks.
use Rattle.std.specs.Prelude.{List, ◌≡◌, ℕ, ◌+◌, ◌<◌, ◌≤◌, Bool, None}
use Rattle.std.specs.List.{AllByRecursion}
use Rattle.td_plan.specs.Lines.{Line, Vertex}
use Rattle.td_plan.specs.Blocks.{vertices}
use Rattle.td_plan.specs.Tree.{Nodes, size, tree_of}
use Rattle.td_plan.specs.Tree.Nodes.{done, node, block}
use Rattle.td_calls.specs.Fits.{first_lack, lacking_code}
use Rattle.td_calls.specs.Stored.{Codes}
use Rattle.td_batch.specs.Quiet.{IsLoopBody}

module _ (stored : Codes) where
  -- a vertex of this number, whose closure is stored
  abbrev pub IsAt : ℕ → Vertex → Type 0
  IsAt n v = (v.number ≡ n) × (lacking_code stored v.kind ≡ None)

  -- the vertices in loops, from number n on
  abbrev pub IsInner : ℕ → Nodes → Type 0
  IsInner n done = Unit {0}
  IsInner n (node v rest) = IsAt n v × IsInner (n + 1) rest
  IsInner n (block bound body rest) = (1 ≤ bound) × ((outer : List ℕ) × IsLoopBody outer n body) × IsInner n body × IsInner (n + size body) rest

  -- the vertices outside loops, whose sources come before them
  abbrev pub IsOuter : ℕ → Nodes → Type 0
  IsOuter n done = Unit {0}
  IsOuter n (node v rest) = IsAt n v × AllByRecursion (λ s. s < n) v.sources × IsOuter (n + 1) rest
  IsOuter n (block bound body rest) = (1 ≤ bound) × ((outer : List ℕ) × IsLoopBody outer n body) × IsInner n body × IsOuter (n + size body) rest

-- a tree is that of a plan, and its vertices are in their places with any closures that fit the plan
abbrev pub IsReady : List Line → Nodes → Type 0
IsReady plan nodes = (nodes ≡ tree_of plan) × ((stored : Codes) → first_lack stored (vertices plan) ≡ None → IsOuter stored 0 nodes)

-- how much a tree has: each loop counts more than its body
abbrev pub weight : Nodes → ℕ
weight done = 0
weight (node v rest) = 1 + weight rest
weight (block bound body rest) = 1 + weight body + weight rest
