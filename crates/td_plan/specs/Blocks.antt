-- The blocks in which the vertices of a plan stand. A block is named by the loops that are open in it, the innermost
-- first: the outermost block by none.
use Rattle.std.specs.Prelude.{ℕ, ◌+◌, List, [], ◌∷◌, ◌++◌, length, drop, take, map, flat_map, sum_by, fold, Option, Some, None, option_map, Bool, false}
use Rattle.std.specs.List.{enumerate_from, slice_get}
use Rattle.std.specs.Str.{bytes_eq}
use Rattle.td_plan.specs.declared.vertex.Kind.{Kind}
use Rattle.td_plan.specs.declared.vertex.Kind.TheVariants.{Enter, Leave, Output}
use Rattle.td_plan.specs.declared.vertex.Loop.{Loop}
use Rattle.td_plan.specs.declared.vertex.Edge.{Edge}
use Rattle.td_plan.specs.Lines.{Vertex, Line}
use Rattle.td_plan.specs.Lines.Line.{vertex, loop, end}

-- A vertex with the loops in which it stands, the innermost first
pub record PlacedVertex : Type 0 where
  pub vertex : Vertex
  pub loops : List Loop

-- What is in scope after some lines of a plan: the vertices so far, in order, and the loops that are open, the
-- innermost first
pub record Scope : Type 0 where
  pub vertices : List PlacedVertex
  pub loops : List Loop

-- nothing, before the first line
abbrev pub no_scope : Scope
no_scope = record { vertices = []; loops = [] }

-- the scope after one more line
abbrev pub scope_after : Scope → Line → Scope
scope_after scope (vertex v) = record { vertices = scope.vertices ++ record { vertex = v; loops = scope.loops } ∷ []; loops = scope.loops }
scope_after scope (loop bound) = record { vertices = scope.vertices; loops = record { first = length scope.vertices; bound = bound } ∷ scope.loops }
scope_after scope end = record { vertices = scope.vertices; loops = drop 1 scope.loops }

-- the scope after some lines
abbrev pub scope_of : List Line → Scope
scope_of lines = fold scope_after no_scope lines

-- the loops that are open where a vertex of this kind reads, if it stands in these loops
abbrev pub reading_loops : Kind → List Loop → List Loop
reading_loops Enter loops = drop 1 loops
reading_loops _ loops = loops

-- and those that are open where it is read, if it is
abbrev pub read_loops : Kind → List Loop → Option (List Loop)
read_loops Leave loops = Some (drop 1 loops)
read_loops Output loops = None
read_loops _ loops = Some loops

-- the first numbers of loops, which tell blocks apart
abbrev pub firsts : List Loop → List ℕ
firsts loops = map (λ l. l.first) loops

-- whether a vertex is read on this block
abbrev pub is_read_on : List Loop → PlacedVertex → Bool
is_read_on block p = elim (read_loops p.vertex.kind p.loops) [ None ↦ false | Some loops ↦ bytes_eq (firsts loops) (firsts block) ]

-- whether this number is that of a vertex which is read on this block
abbrev pub is_source_on : List Loop → List PlacedVertex → ℕ → Bool
is_source_on block vertices s = elim (slice_get vertices s) [ None ↦ false | Some p ↦ is_read_on block p ]

-- LOOK-UPS. The vertices of a plan in the order of their numbers: vertex v is `slice_get (vertices plan) v`
abbrev pub vertices : List Line → List PlacedVertex
vertices plan = (scope_of plan).vertices

-- what a vertex does, if the plan has it
abbrev pub kind_at : List Line → ℕ → Option Kind
kind_at plan v = option_map (λ p. p.vertex.kind) (slice_get (vertices plan) v)

-- the numbers of its sources, by port
abbrev pub sources_at : List Line → ℕ → List ℕ
sources_at plan v = elim (slice_get (vertices plan) v) [ None ↦ [] | Some p ↦ p.vertex.sources ]

-- the loops in which it stands, the innermost first
abbrev pub loops_at : List Line → ℕ → List Loop
loops_at plan v = elim (slice_get (vertices plan) v) [ None ↦ [] | Some p ↦ p.loops ]

-- the loops that are open where it reads
abbrev pub reading_loops_at : List Line → ℕ → List Loop
reading_loops_at plan v = elim (slice_get (vertices plan) v) [ None ↦ [] | Some p ↦ reading_loops p.vertex.kind p.loops ]

-- the loops that are open where it is read, if it is
abbrev pub read_loops_at : List Line → ℕ → Option (List Loop)
read_loops_at plan v = elim (slice_get (vertices plan) v) [ None ↦ None | Some p ↦ read_loops p.vertex.kind p.loops ]

-- the bounds of loops
abbrev pub bounds : List Loop → List ℕ
bounds loops = map (λ l. l.bound) loops

-- the bound of its innermost loop, if it stands in one
abbrev pub bound_at : List Line → ℕ → Option ℕ
bound_at plan v = slice_get (bounds (loops_at plan v)) 0

-- the edges that lead to a vertex, by port
abbrev pub edges_to : PlacedVertex → List Edge
edges_to p = map (λ s. record { source = s.1; reader = p.vertex.number; port = s.0 }) (enumerate_from 0 p.vertex.sources)

-- the edges of a plan, by reader and then port; an edge's number is its place in this list
abbrev pub edges : List Line → List Edge
edges plan = flat_map edges_to (vertices plan)

-- how many edges lead to some vertices
abbrev pub edge_count : List PlacedVertex → ℕ
edge_count placed = sum_by (λ p. length p.vertex.sources) placed

-- the number of the edge by reader and port
abbrev pub edge_at : List Line → ℕ → ℕ → ℕ
edge_at plan reader port = edge_count (take reader (vertices plan)) + port

-- the loops of a plan, in the order in which they begin, from a scope on
abbrev pub loops_from : Scope → List Line → List Loop
loops_from scope [] = []
loops_from scope (loop bound ∷ lines) = record { first = length scope.vertices; bound = bound } ∷ loops_from (scope_after scope (loop bound)) lines
loops_from scope (line ∷ lines) = loops_from (scope_after scope line) lines

abbrev pub loops : List Line → List Loop
loops plan = loops_from no_scope plan
