-- Where the kinds of a plan without faults stand, and the bounds of its loops.
use Rattle.std.proofs.Common.{◌≡◌, ℕ, ◌≤◌, Bool, true, false, List, [], ◌∷◌, ◌++◌, length, refl, ap, sym, ◌∙◌, arith}
use Rattle.std.specs.Prelude.{is_none, not, ◌&&◌, ◌||◌, drop, nat_le}
use Rattle.std.specs.List.{list_all}
use Rattle.std.proofs.lemmas.Bool.Decides.{nat_tests}
use Rattle.std.proofs.lemmas.List.{append_assoc, append-nil}
use Rattle.td_plan.specs.declared.vertex.Kind.{Kind}
use Rattle.td_plan.specs.declared.vertex.Loop.{Loop}
use Rattle.td_plan.specs.Lines.{Vertex, Line}
use Rattle.td_plan.specs.Lines.Line.{vertex, loop, end}
use Rattle.td_plan.specs.Blocks.{PlacedVertex, no_scope, scope_after, is_source_on, reading_loops}
use Rattle.td_plan.specs.Faults.{Fault, has_fault, faults, fault_of, is_faultless, is_feedback, is_fold, is_in_loop, is_of_loops, is_of_outermost, IsPlan}
use Rattle.td_plan.specs.Tree.{Nodes, tree_of, lines_of, placed_in}
use Rattle.td_plan.specs.Tree.Nodes.{done, node, block}
use Rattle.td_plan.specs.Standing.{may_stand, StandsWell}
use Rattle.td_plan.proofs.Readings.{both}
use Rattle.td_plan.proofs.Trees.{scope, rest_faultless, none_found, neither, walk, tree_lines}

-- what the faults Nest and FoldInLoop leave of a kind, in a loop and outside all loops
in_loop : (outermost fold of_loops : Bool) → ((true && outermost) || (not true && of_loops)) ≡ false → (fold && true) ≡ false → (not outermost && not fold) ≡ true
in_loop true fold of_loops n f = absurd (cc)
in_loop false true of_loops n f = absurd (cc)
in_loop false false of_loops n f = refl

outside : (outermost of_loops : Bool) → ((false && outermost) || (not false && of_loops)) ≡ false → not of_loops ≡ true
outside outermost true n = absurd (cc)
outside outermost false n = refl

may : (b : Bool) (k : Kind) → ((b && is_of_outermost k) || (not b && is_of_loops k)) ≡ false → (is_fold k && b) ≡ false → may_stand b k ≡ true
may true k n f = in_loop (is_of_outermost k) (is_fold k) (is_of_loops k) n f
may false k n f = outside (is_of_outermost k) (is_of_loops k) n

-- a vertex without a fault stands where its kind may
stood : (vs : List PlacedVertex) (ls : List Loop) (v : Vertex) → is_none (fault_of (scope vs ls) (vertex v)) ≡ true → may_stand (is_in_loop ls) v.kind ≡ true
stood vs ls v e =
    let p : Fault → Bool = has_fault (scope vs ls) (vertex v) in
    let a = none_found p Fault.syntax (drop 1 faults) e in
    let b = none_found p Fault.number (drop 2 faults) a.1 in
    let c = none_found p Fault.order (drop 3 faults) b.1 in
    let d = none_found p Fault.nest (drop 4 faults) c.1 in
    let f = none_found p Fault.bound (drop 5 faults) d.1 in
    let g = none_found p Fault.fold_in_loop (drop 6 faults) f.1 in
    let all = list_all (is_source_on (reading_loops v.kind ls) vs) v.sources in
    let elsewhere = not (is_feedback v.kind) && not (is_fold v.kind && is_in_loop ls) && not all in
    let first = (neither ((is_in_loop ls && is_of_outermost v.kind) || (not (is_in_loop ls) && is_of_loops v.kind)) elsewhere d.0).0 in
    may (is_in_loop ls) v.kind first g.0

-- the bound of a head without a fault
within : (n : ℕ) → not (nat_le 1 n && nat_le n 1000) ≡ false → (1 ≤ n) × (n ≤ 1000)
within n e = (grind (arith, nat_tests), grind (arith, nat_tests))

bounded : (vs : List PlacedVertex) (ls : List Loop) (n : ℕ) → is_none (fault_of (scope vs ls) (loop n)) ≡ true → (1 ≤ n) × (n ≤ 1000)
bounded vs ls n e =
    let p : Fault → Bool = has_fault (scope vs ls) (loop n) in
    let a = none_found p Fault.syntax (drop 1 faults) e in
    let b = none_found p Fault.number (drop 2 faults) a.1 in
    let c = none_found p Fault.order (drop 3 faults) b.1 in
    let d = none_found p Fault.nest (drop 4 faults) c.1 in
    within n (none_found p Fault.bound (drop 5 faults) d.1).0

-- nodes whose lines have no fault stand well
stands : (ns : Nodes) (vs : List PlacedVertex) (ls : List Loop) (lines : List Line) → is_faultless (scope vs ls) (lines_of ns ++ lines) ≡ true → StandsWell (is_in_loop ls) ns
stands done vs ls lines f = tt
stands (node v rest) vs ls lines f =
    let here : PlacedVertex = record { vertex = v; loops = ls } in
    let parts = both (is_none (fault_of (scope vs ls) (vertex v))) (is_faultless (scope_after (scope vs ls) (vertex v)) (lines_of rest ++ lines)) f in
    (stood vs ls v parts.0, stands rest (vs ++ here ∷ []) ls lines parts.1)
stands (block b body rest) vs ls lines f =
    let l : Loop = record { first = length vs; bound = b } in
    let after = lines_of rest ++ lines in
    let split : lines_of (block b body rest) ++ lines ≡ loop b ∷ (lines_of body ++ end ∷ after) = ap (λ r. loop b ∷ r) (append_assoc (lines_of body) (end ∷ lines_of rest) lines) in
    let whole : is_faultless (scope vs ls) (loop b ∷ (lines_of body ++ end ∷ after)) ≡ true = ap (is_faultless (scope vs ls)) (sym split) ∙ f in
    let parts = both (is_none (fault_of (scope vs ls) (loop b))) (is_faultless (scope vs (l ∷ ls)) (lines_of body ++ end ∷ after)) whole in
    let inside = placed_in (l ∷ ls) (length vs) body in
    let bound = bounded vs ls b parts.0 in (
      bound.0,
      bound.1,
      stands body vs (l ∷ ls) (end ∷ after) parts.1,
      stands rest (vs ++ inside) ls lines (rest_faultless (scope (vs ++ inside) (l ∷ ls)) end after (walk body vs (l ∷ ls) (end ∷ after) parts.1).faultless),
    )

pub tree_stands : (plan : List Line) → IsPlan plan → StandsWell false (tree_of plan)
tree_stands plan p = stands (tree_of plan) [] [] [] (ap (is_faultless no_scope) (append-nil (lines_of (tree_of plan)) ∙ tree_lines plan p) ∙ p.faultless)
