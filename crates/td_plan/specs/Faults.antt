-- The faults of a line. Each is told from the line and what is in scope before it.
use Rattle.std.specs.Prelude.{◌≡◌, ℕ, ◌+◌, Bool, true, false, not, ◌&&◌, ◌||◌, ◌==◌, nat_lt, nat_le, List, [], ◌∷◌, length, find, Option, Some, None, is_none}
use Rattle.std.specs.List.{list_any, list_all, slice_get}
use Rattle.td_plan.specs.declared.vertex.Kind.{Kind}
use Rattle.td_plan.specs.declared.vertex.Kind.TheVariants.{Input, Fold, Enter, Feedback, Leave, Output}
use Rattle.td_plan.specs.declared.vertex.Loop.{Loop}
use Rattle.td_plan.specs.Lines.{Line, has_form}
use Rattle.td_plan.specs.Lines.Line.{vertex, loop, end}
use Rattle.td_plan.specs.Blocks.{PlacedVertex, Scope, no_scope, scope_after, scope_of, reading_loops, is_source_on, edge_count, vertices}

-- The most vertices of a plan
abbrev pub most_vertices : ℕ
most_vertices = 64

-- The faults that the first pass tells
pub data Fault : Type 0 where
  syntax : Fault
  number : Fault
  order : Fault
  nest : Fault
  bound : Fault
  fold_in_loop : Fault
  again : Fault
  too_many : Fault

abbrev pub is_fold : Kind → Bool
is_fold (Fold code) = true
is_fold _ = false

abbrev pub is_feedback : Kind → Bool
is_feedback Feedback = true
is_feedback _ = false

abbrev pub is_enter : Kind → Bool
is_enter Enter = true
is_enter _ = false

abbrev pub is_input : Kind → Bool
is_input Input = true
is_input _ = false

abbrev pub is_output : Kind → Bool
is_output Output = true
is_output _ = false

-- a kind that stands in loops alone
abbrev pub is_of_loops : Kind → Bool
is_of_loops Enter = true
is_of_loops Feedback = true
is_of_loops Leave = true
is_of_loops _ = false

-- a kind that stands in no loop. (A fold stands in none either, but has a fault of its own there.)
abbrev pub is_of_outermost : Kind → Bool
is_of_outermost Input = true
is_of_outermost Output = true
is_of_outermost _ = false

abbrev pub is_in_loop : List Loop → Bool
is_in_loop [] = false
is_in_loop (l ∷ outer) = true

-- the line `end` has nothing to end: no loop is open, or the innermost has no vertex (count is that of all so far)
abbrev pub ends_nothing : List Loop → ℕ → Bool
ends_nothing [] count = true
ends_nothing (l ∷ outer) count = l.first == count

-- a source does not stand before the loop
abbrev pub enters_from_within : List Loop → List ℕ → Bool
enters_from_within [] sources = false
enters_from_within (l ∷ outer) sources = list_any (λ s. nat_le l.first s) sources

-- some source is not read on this block
abbrev pub reads_elsewhere : List Loop → List PlacedVertex → List ℕ → Bool
reads_elsewhere block placed sources = not (list_all (is_source_on block placed) sources)

-- whether a line has a fault, which the first pass can tell
abbrev pub has_fault : Scope → Line → Fault → Bool
has_fault scope end syntax = ends_nothing scope.loops (length scope.vertices)
has_fault scope (vertex v) number = not (v.number == length scope.vertices)
has_fault scope (vertex v) order =
    (not (is_feedback v.kind) && list_any (λ s. nat_le v.number s) v.sources) || (is_enter v.kind && enters_from_within scope.loops v.sources)
has_fault scope (vertex v) nest =
    (is_in_loop scope.loops && is_of_outermost v.kind) || (not (is_in_loop scope.loops) && is_of_loops v.kind)
    || (not (is_feedback v.kind) && not (is_fold v.kind && is_in_loop scope.loops) && reads_elsewhere (reading_loops v.kind scope.loops) scope.vertices v.sources)
has_fault scope (loop n) bound = not (nat_le 1 n && nat_le n 1000)
has_fault scope (vertex v) fold_in_loop = is_fold v.kind && is_in_loop scope.loops
has_fault scope (vertex v) again = is_feedback v.kind && not (length v.sources == 1)
has_fault scope (vertex v) too_many = nat_le most_vertices (length scope.vertices) || nat_lt 8 (length v.sources) || nat_lt 128 (edge_count scope.vertices + length v.sources)
has_fault scope (loop n) too_many = nat_le 3 (length scope.loops)
has_fault scope line fault = false

-- the faults in the order in which those of one line count
abbrev pub faults : List Fault
faults = syntax ∷ number ∷ order ∷ nest ∷ bound ∷ fold_in_loop ∷ again ∷ too_many ∷ []

-- the first fault of a line
abbrev pub fault_of : Scope → Line → Option Fault
fault_of scope line = find (has_fault scope line) faults

-- no line has a fault which the first pass can tell
abbrev pub is_faultless : Scope → List Line → Bool
is_faultless scope [] = true
is_faultless scope (line ∷ lines) = is_none (fault_of scope line) && is_faultless (scope_after scope line) lines

-- the second pass: a feedback whose source is no vertex of the plan, or is not read on the feedback's block
abbrev pub is_stray_feedback : List PlacedVertex → PlacedVertex → Bool
is_stray_feedback placed p = is_feedback p.vertex.kind && reads_elsewhere p.loops placed p.vertex.sources

-- whether a line of a plan is one, which is told at the vertex of its number
abbrev pub is_stray : List Line → Line → Bool
is_stray plan (vertex v) = is_feedback v.kind && elim (slice_get (vertices plan) v.number) [ None ↦ false | Some p ↦ is_stray_feedback (vertices plan) p ]
is_stray plan _ = false

abbrev pub is_nil : List Loop → Bool
is_nil [] = true
is_nil (l ∷ outer) = false

-- some vertex is an input, and some an output
abbrev pub has_ends : List PlacedVertex → Bool
has_ends placed = list_any (λ p. is_input p.vertex.kind) placed && list_any (λ p. is_output p.vertex.kind) placed

-- A plan: lines without a fault
pub record IsPlan (plan : List Line) : Type 0 where
  pub formed : list_all has_form plan ≡ true
  pub faultless : is_faultless no_scope plan ≡ true
  pub closed : is_nil (scope_of plan).loops ≡ true
  pub none_stray : list_any (is_stray plan) plan ≡ false
  pub ends : has_ends (vertices plan) ≡ true
