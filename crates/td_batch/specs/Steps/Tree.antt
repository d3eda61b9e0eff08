-- The tree of a plan as the evaluator has it, and what its vertices read.
use Rattle.std.specs.Prelude.{◌≡◌, ℕ, List, [], ◌++◌, Bool, true, cond}
use Rattle.std.specs.List.{AllByRecursion}
use Rattle.td_plan.specs.declared.vertex.Kind.{Kind}
use Rattle.td_plan.specs.declared.vertex.Kind.TheVariants.{Enter, Feedback}
use Rattle.td_plan.specs.Tree.{Nodes}
use Rattle.td_plan.specs.Tree.Nodes.{done, node, block}
use Rattle.td_batch.specs.declared.tree.Tree.{Tree, Done, Then', Loop'}
use Rattle.td_batch.specs.Meaning.{Bags, emitted}
use Rattle.td_batch.specs.Quiet.{fed_back}

-- the tree for which it stands
abbrev pub nodes_of : Tree → Nodes
nodes_of Done = done
nodes_of (Then' vertex p rest) = node vertex.vertex (nodes_of rest)
nodes_of (Loop' bound p body q rest) = block bound (nodes_of body) (nodes_of rest)

-- the sources that a vertex reads among the bags of its own turn: what enters a loop is read in its first turn alone, and
-- a feedback reads the turn before
abbrev pub read_by : Bool → Kind → List ℕ → List ℕ
read_by first Enter sources = cond first sources []
read_by first Feedback sources = []
read_by first _ sources = sources

-- those of all vertices of a block, and of the loops in it
abbrev pub reads : Bool → Nodes → List ℕ
reads first done = []
reads first (node v rest) = read_by first v.kind v.sources ++ reads first rest
reads first (block bound body rest) = (reads true body ++ fed_back body) ++ reads first rest

-- these bags are the same for whoever reads these vertices
abbrev pub AreAlike : List ℕ → Bags → Bags → Type 0
AreAlike sources bags others = AllByRecursion (λ s. emitted bags s ≡ emitted others s) sources
