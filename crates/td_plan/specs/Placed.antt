-- Where the sources of a plan's vertices are read, told along its tree.
use Rattle.std.specs.Prelude.{◌≡◌, ℕ, ◌+◌, ◌==◌, true, List, [], ◌∷◌, ◌++◌}
use Rattle.std.specs.List.{AllByRecursion, list_any}
use Rattle.td_plan.specs.declared.vertex.Kind.{Kind}
use Rattle.td_plan.specs.declared.vertex.Kind.TheVariants.{Enter, Feedback, Leave}
use Rattle.td_plan.specs.Lines.{Vertex}
use Rattle.td_plan.specs.Tree.{Nodes, size}
use Rattle.td_plan.specs.Tree.Nodes.{done, node, block}

-- the numbers of the leave vertices of a loop, which are read on the block around it
abbrev pub leave_of : Vertex → Kind → List ℕ
leave_of v Leave = v.number ∷ []
leave_of v _ = []

abbrev pub leaves_of : Nodes → List ℕ
leaves_of done = []
leaves_of (node v rest) = leave_of v v.kind ++ leaves_of rest
leaves_of (block bound body rest) = leaves_of rest

-- the numbers of the vertices that are read on a block (an output among them, which nothing reads)
abbrev pub read_of : Vertex → Kind → List ℕ
read_of v Leave = []
read_of v _ = v.number ∷ []

abbrev pub read_in : Nodes → List ℕ
read_in done = []
read_in (node v rest) = read_of v v.kind ++ read_in rest
read_in (block bound body rest) = leaves_of body ++ read_in rest

-- where a kind may have its sources: an enter outside, a feedback anywhere on its block, all others on the block so far
abbrev pub readable : List ℕ → List ℕ → List ℕ → Kind → List ℕ
readable all outer own Enter = outer
readable all outer own Feedback = all
readable all outer own _ = own

-- numbers count up from n, and each source is read where its reader reads
abbrev pub IsWellPlaced : List ℕ → List ℕ → List ℕ → ℕ → Nodes → Type 0
IsWellPlaced all outer own n done = Unit {0}
IsWellPlaced all outer own n (node v rest) =
    (v.number ≡ n) × AllByRecursion (λ s. list_any (λ x. x == s) (readable all outer own v.kind) ≡ true) v.sources
    × IsWellPlaced all outer (own ++ read_of v v.kind) (n + 1) rest
IsWellPlaced all outer own n (block bound body rest) =
    IsWellPlaced (read_in body) own [] n body × IsWellPlaced all outer (own ++ leaves_of body) (n + size body) rest

-- of a whole plan
abbrev pub IsPlacedTree : Nodes → Type 0
IsPlacedTree nodes = IsWellPlaced (read_in nodes) [] [] 0 nodes
