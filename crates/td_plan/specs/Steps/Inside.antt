-- What the fields of the reader's own values, and of a plan, stand for.
use Rattle.std.specs.Prelude.{◌≡◌, ℕ, ◌≤◌, Bool, true, ◌&&◌, nat_lt, nat_le, List, length}
use Rattle.std.specs.List.{list_all}
use Rattle.td_plan.specs.declared.vertex.Edge.{Edge}
use Rattle.td_plan.specs.declared.vertex.Loop.{Loop}
use Rattle.td_plan.specs.declared.mark.Mark.{Mark}
use Rattle.td_plan.specs.Lines.{Line, has_form}
use Rattle.td_plan.specs.Marks.{AreMarked}
use Rattle.td_plan.specs.Blocks.{PlacedVertex, Scope, no_scope, scope_of, vertices, edges, edge_count, loops}
use Rattle.td_plan.specs.Faults.{most_vertices, is_faultless, IsPlan}

-- the number of a vertex and those of its sources are those of vertices, and the sources are few
abbrev pub is_narrow : PlacedVertex → Bool
is_narrow p = nat_lt p.vertex.number most_vertices && nat_le (length p.vertex.sources) 8 && list_all (λ s. nat_lt s most_vertices) p.vertex.sources

-- so many edges lead to these vertices, and neither are too many
pub record IsCounted (placed : List PlacedVertex) (count : ℕ) : Type 0 where
  pub counted : count ≡ edge_count placed
  pub few_vertices : length placed ≤ most_vertices
  pub few_edges : count ≤ 128

-- lines without a fault, and their scope and loops
pub record AreRead (lines : List Line) (marks : List Mark) (scope : Scope) (kept : List Loop) : Type 0 where
  pub marked : AreMarked marks scope.vertices
  pub scope_is : scope ≡ scope_of lines
  pub loops_are : kept ≡ loops lines
  pub formed : list_all has_form lines ≡ true
  pub faultless : is_faultless no_scope lines ≡ true

-- a plan, and its vertices, edges and loops
pub record IsKept (plan : List Line) (marks : List Mark) (placed : List PlacedVertex) (kept_edges : List Edge) (kept_loops : List Loop) : Type 0 where
  pub marked : AreMarked marks placed
  pub vertices_are : placed ≡ vertices plan
  pub edges_are : kept_edges ≡ edges plan
  pub loops_are : kept_loops ≡ loops plan
  pub lawful : IsPlan plan
  pub few : length placed ≤ most_vertices
