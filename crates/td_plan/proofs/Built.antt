-- A plan that is built of what was read.
use Rattle.std.proofs.Common.{◌≡◌, ℕ, zero, suc, ◌<◌, ◌≤◌, Bool, true, false, not, ◌&&◌, ◌||◌, nat_le, nat_lt, List, [], ◌∷◌, ◌++◌, length, refl, sym, ap, ◌∙◌, arith, subst}
use Rattle.std.specs.Prelude.{Option, Some, None, is_none, fold, flat_map, drop}
use Rattle.std.specs.List.{list_all, list_any, slice_get}
use Rattle.std.proofs.lemmas.Bool.{lt-ltb}
use Rattle.std.proofs.lemmas.Bool.Decides.{nat_tests}
use Rattle.std.proofs.lemmas.List.{append-nil, append_assoc}
use Rattle.std.proofs.lemmas.List.Folds.{list_all-append}
use Rattle.td_plan.specs.declared.vertex.Edge.{Edge}
use Rattle.td_plan.specs.declared.vertex.Loop.{Loop}
use Rattle.td_plan.specs.declared.mark.Mark.{Mark}
use Rattle.td_plan.specs.Lines.{Vertex, Line}
use Rattle.td_plan.specs.Lines.Line.{vertex, loop, end}
use Rattle.td_plan.specs.Blocks.{PlacedVertex, Scope, scope_after, vertices, edges_to, is_source_on}
use Rattle.td_plan.specs.Faults.{Fault, has_fault, faults, fault_of, is_faultless, is_feedback, is_enter, enters_from_within, is_stray, is_stray_feedback, reads_elsewhere, IsPlan}
use Rattle.td_plan.specs.Marks.{lines_of_marks}
use Rattle.td_plan.specs.Steps.Inside.{AreRead, IsKept, is_narrow}
use Rattle.td_plan.proofs.Readings.{both}
use Rattle.td_plan.proofs.Growth.{few}
use Rattle.td_plan.proofs.Trees.{none_found, neither, numbered, scope}

-- SMALL NUMBERS
narrow : (n : ℕ) → n < 64 → nat_lt n 64 ≡ true
narrow n h = lt-ltb n 64 (omega arith)

-- a source that is read somewhere is the number of a vertex
on_small : (block : List Loop) (vs : List PlacedVertex) (s : ℕ) → is_source_on block vs s ≡ true → s < length vs
on_small block [] s on = absurd (cc)
on_small block (p ∷ vs) zero on = omega arith
on_small block (p ∷ vs) (suc s) on = let r = on_small block vs s on in omega (arith, r)

all_on_small : (block : List Loop) (vs : List PlacedVertex) (ss : List ℕ) → length vs ≤ 64 → list_all (is_source_on block vs) ss ≡ true → list_all (λ s. nat_lt s 64) ss ≡ true
all_on_small block vs [] le h = refl
all_on_small block vs (s ∷ ss) le h =
    let parts = both (is_source_on block vs s) (list_all (is_source_on block vs) ss) h in
    let r = on_small block vs s parts.0 in
    rw (narrow s (omega arith), all_on_small block vs ss le parts.1) refl

not_le : (a b : ℕ) → nat_le a b ≡ false → b < a
not_le a b h = grind (arith, nat_tests)

all_before_small : (n : ℕ) (ss : List ℕ) → n < 64 → list_any (λ s. nat_le n s) ss ≡ false → list_all (λ s. nat_lt s 64) ss ≡ true
all_before_small n [] lt h = refl
all_before_small n (s ∷ ss) lt h =
    let parts = neither (nat_le n s) (list_any (λ s. nat_le n s) ss) h in
    let r = not_le n s parts.0 in
    rw (narrow s (omega arith), all_before_small n ss lt parts.1) refl

not_false : (b : Bool) → not b ≡ false → b ≡ true
not_false true h = refl
not_false false h = absurd (cc)

sources_small : (plan : List PlacedVertex) (block : List Loop) (feedback late within : Bool) (n : ℕ) (ss : List ℕ) → length plan ≤ 64 → n < 64 → late ≡ list_any (λ s. nat_le n s) ss
    → ((not feedback && late) || within) ≡ false → (feedback && not (list_all (is_source_on block plan) ss)) ≡ false → list_all (λ s. nat_lt s 64) ss ≡ true
sources_small plan block true late within n ss le lt e h stray = all_on_small block plan ss le (not_false _ stray)
sources_small plan block false late within n ss le lt e h stray = all_before_small n ss lt (sym e ∙ (neither late within h).0)

seam : (xs : List PlacedVertex) (y : PlacedVertex) (ys : List PlacedVertex) → slice_get (xs ++ y ∷ ys) (length xs) ≡ Some y
seam [] y ys = refl
seam (x ∷ xs) y ys = seam xs y ys

-- vertices stay
pub grown : (lines : List Line) (vs : List PlacedVertex) (ls : List Loop) → (more : List PlacedVertex) × ((fold scope_after (scope vs ls) lines).vertices ≡ vs ++ more)
grown [] vs ls = ([], sym (append-nil vs))
grown (vertex v ∷ lines) vs ls =
    let here : PlacedVertex = record { vertex = v; loops = ls } in
    let r = grown lines (vs ++ here ∷ []) ls in
    (here ∷ r.0, r.1 ∙ append_assoc vs (here ∷ []) r.0)
grown (loop b ∷ lines) vs ls = grown lines vs (record { first = length vs; bound = b } ∷ ls)
grown (end ∷ lines) vs ls = grown lines vs (drop 1 ls)

idle : (a b : Bool) → (a && (a && b)) ≡ false → (a && b) ≡ false
idle true b h = h
idle false b h = h

vertex_narrow : (plan : List Line) (vs : List PlacedVertex) (ls : List Loop) (v : Vertex) (more : List PlacedVertex) → fault_of (scope vs ls) (vertex v) ≡ None → is_stray plan (vertex v) ≡ false
    → vertices plan ≡ vs ++ record { vertex = v; loops = ls } ∷ more → length (vertices plan) ≤ 64 → is_narrow (record { vertex = v; loops = ls }) ≡ true
vertex_narrow plan vs ls v more none stray whole le =
    let here : PlacedVertex = record { vertex = v; loops = ls } in
    let size = few (scope vs ls) v none in
    let p : Fault → Bool = has_fault (scope vs ls) (vertex v) in
    let a = none_found p Fault.syntax (drop 1 faults) (ap is_none none) in
    let b = none_found p Fault.number (drop 2 faults) a.1 in
    let c = none_found p Fault.order (drop 3 faults) b.1 in
    let number : v.number ≡ length vs = numbered vs ls v (ap is_none none) in
    let at : slice_get (vertices plan) v.number ≡ Some here = (λ i. slice_get (whole i) (number i)) ∙ seam vs here more in
    let returns : (is_feedback v.kind && reads_elsewhere ls (vertices plan) v.sources) ≡ false =
    idle (is_feedback v.kind) (reads_elsewhere ls (vertices plan) v.sources) (sym (ap (λ o. is_feedback v.kind && elim o [ None ↦ false | Some q ↦ is_stray_feedback (vertices plan) q ]) at) ∙ stray) in
    let small = sources_small (vertices plan) ls (is_feedback v.kind) _ (is_enter v.kind && enters_from_within ls v.sources) v.number v.sources le (omega (arith, number, size.vertices)) refl c.0 returns in
    rw (narrow v.number (omega (arith, number, size.vertices)), few_sources (length v.sources) size.sources, small) refl
  where
    few_sources : (n : ℕ) → n ≤ 8 → nat_le n 8 ≡ true
    few_sources n h = grind (arith, nat_tests)

pub none_when : (scope : Scope) (line : Line) → is_none (fault_of scope line) ≡ true → fault_of scope line ≡ None
none_when scope line e = by (fault_of scope line) refl e
  where
    by : (o : Option Fault) → fault_of scope line ≡ o → is_none o ≡ true → fault_of scope line ≡ None
    by None at e = at
    by (Some f) at e = absurd (cc)

lines_narrow : (plan lines : List Line) (vs : List PlacedVertex) (ls : List Loop) → is_faultless (scope vs ls) lines ≡ true → list_any (is_stray plan) lines ≡ false
    → vertices plan ≡ (fold scope_after (scope vs ls) lines).vertices → length (vertices plan) ≤ 64 → list_all is_narrow vs ≡ true → list_all is_narrow (fold scope_after (scope vs ls) lines).vertices ≡ true
lines_narrow plan [] vs ls f s whole le so_far = so_far
lines_narrow plan (vertex v ∷ lines) vs ls f s whole le so_far =
    let here : PlacedVertex = record { vertex = v; loops = ls } in
    let parts = both (is_none (fault_of (scope vs ls) (vertex v))) (is_faultless (scope_after (scope vs ls) (vertex v)) lines) f in
    let strays = neither (is_stray plan (vertex v)) (list_any (is_stray plan) lines) s in
    let r = grown lines (vs ++ here ∷ []) ls in
    let split : vertices plan ≡ vs ++ here ∷ r.0 = whole ∙ r.1 ∙ append_assoc vs (here ∷ []) r.0 in
    let one : is_narrow here ≡ true = vertex_narrow plan vs ls v r.0 (none_when (scope vs ls) (vertex v) parts.0) strays.0 split le in
    lines_narrow plan lines (vs ++ here ∷ []) ls parts.1 strays.1 whole le (list_all-append is_narrow vs (here ∷ []) ∙ rw (so_far, one) refl)
lines_narrow plan (loop b ∷ lines) vs ls f s whole le so_far =
    let parts = both (is_none (fault_of (scope vs ls) (loop b))) (is_faultless (scope_after (scope vs ls) (loop b)) lines) f in
    lines_narrow plan lines vs (record { first = length vs; bound = b } ∷ ls) parts.1 s whole le so_far
lines_narrow plan (end ∷ lines) vs ls f s whole le so_far =
    let parts = both (is_none (fault_of (scope vs ls) end)) (is_faultless (scope_after (scope vs ls) end) lines) f in
    lines_narrow plan lines vs (drop 1 ls) parts.1 s whole le so_far

pub plan_narrow : (plan : List Line) → IsPlan plan → length (vertices plan) ≤ 64 → list_all is_narrow (vertices plan) ≡ true
plan_narrow plan p le = lines_narrow plan plan [] [] p.faultless p.none_stray refl le refl

-- THE PLAN
pub kept : (marks : List Mark) (vs : List PlacedVertex) (es : List Edge) (ls : List Loop) (scope : Scope) → AreRead (lines_of_marks marks scope.vertices) marks scope ls → vs ≡ scope.vertices
    → es ≡ flat_map edges_to vs → IsPlan (lines_of_marks marks scope.vertices) → length scope.vertices ≤ 64 → IsKept (lines_of_marks marks vs) marks vs es ls
kept marks vs es ls scope r same edges lawful le =
    subst (λ (p : List PlacedVertex × List Edge). IsKept (lines_of_marks marks p.0) marks p.0 p.1 ls) (λ i. (sym same i, (ap (flat_map edges_to) (sym same) ∙ sym edges) i)) (record {
      marked = r.marked;
      vertices_are = ap (λ (s : Scope). s.vertices) r.scope_is;
      edges_are = ap (λ (s : Scope). flat_map edges_to s.vertices) r.scope_is;
      loops_are = r.loops_are;
      lawful = lawful;
      few = le;
    })
