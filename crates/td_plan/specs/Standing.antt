-- Which vertices stand in a loop, and which may.
use Rattle.std.specs.Prelude.{◌≡◌, ◌≤◌, ℕ, Bool, true, false, not, ◌&&◌, List, Some, drop}
use Rattle.std.specs.List.{Contains, AllByRecursion, slice_get}
use Rattle.td_plan.specs.declared.vertex.Loop.{Loop}
use Rattle.td_plan.specs.declared.vertex.Kind.{Kind}
use Rattle.td_plan.specs.Blocks.{PlacedVertex, firsts}
use Rattle.td_plan.specs.Faults.{is_of_loops, is_of_outermost, is_fold}
use Rattle.td_plan.specs.Tree.{Nodes}
use Rattle.td_plan.specs.Tree.Nodes.{done, node, block}

-- a vertex stands in these loops alone
abbrev pub StandsAmong : List Loop → PlacedVertex → Type 0
StandsAmong loops p = AllByRecursion (Contains loops) p.loops

-- the vertex of a loop's first number stands in it
abbrev pub HasFirst : List PlacedVertex → Loop → Type 0
HasFirst placed l = (p : PlacedVertex) × (slice_get placed l.first ≡ Some p) × Contains p.loops l

-- these loops and those, from any of them outwards: where their first numbers are the same, they are
abbrev pub AreAlike : List Loop → List Loop → Type 0
AreAlike a b = (j k : ℕ) → firsts (drop j a) ≡ firsts (drop k b) → drop j a ≡ drop k b

-- whether a vertex of this kind may stand in a loop, or outside all loops
abbrev pub may_stand : Bool → Kind → Bool
may_stand true kind = not (is_of_outermost kind) && not (is_fold kind)
may_stand false kind = not (is_of_loops kind)

-- a loop has a bound from 1 to 1,000
abbrev pub IsBounded : Loop → Type 0
IsBounded l = (1 ≤ l.bound) × (l.bound ≤ 1000)

-- each vertex of a tree, which is in a loop or not, stands where its kind may, and each loop has a bound from 1 to 1,000
abbrev pub StandsWell : Bool → Nodes → Type 0
StandsWell in_loop done = Unit {0}
StandsWell in_loop (node v rest) = (may_stand in_loop v.kind ≡ true) × StandsWell in_loop rest
StandsWell in_loop (block bound body rest) = (1 ≤ bound) × (bound ≤ 1000) × StandsWell true body × StandsWell in_loop rest
