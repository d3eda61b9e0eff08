-- Where the vertices of a plan's tree are found, and which edges lead to them.
use Rattle.std.specs.Prelude.{◌≡◌, ℕ, ◌==◌, List, ◌∷◌, drop, filter, Some}
use Rattle.td_plan.specs.declared.vertex.Kind.{Kind}
use Rattle.td_plan.specs.declared.vertex.Kind.TheVariants.{Enter}
use Rattle.td_plan.specs.Lines.{Vertex, Line}
use Rattle.td_plan.specs.Blocks.{kind_at, loops_at, reading_loops_at, bounds, edges, edges_to}
use Rattle.td_plan.specs.Tree.{Nodes}
use Rattle.td_plan.specs.Tree.Nodes.{done, node, block}

-- the bounds of the loops that are open where a vertex of this kind reads, if it stands in loops of these bounds
abbrev pub read_bounds : Kind → List ℕ → List ℕ
read_bounds Enter own = drop 1 own
read_bounds _ own = own

-- the look-ups by its number find the vertex, in loops of these bounds, and the edges that lead to it are those from its sources
pub record IsLaid (plan : List Line) (own : List ℕ) (v : Vertex) : Type 0 where
  pub kind : kind_at plan v.number ≡ Some v.kind
  pub stands : bounds (loops_at plan v.number) ≡ own
  pub reads : bounds (reading_loops_at plan v.number) ≡ read_bounds v.kind own
  pub into : filter (λ e. e.reader == v.number) (edges plan) ≡ edges_to (record { vertex = v; loops = loops_at plan v.number })

-- all vertices of a block in loops of these bounds
abbrev pub AreLaid : List Line → List ℕ → Nodes → Type 0
AreLaid plan own done = Unit {0}
AreLaid plan own (node v rest) = IsLaid plan own v × AreLaid plan own rest
AreLaid plan own (block bound body rest) = AreLaid plan (bound ∷ own) body × AreLaid plan own rest
