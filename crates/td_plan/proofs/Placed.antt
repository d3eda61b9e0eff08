-- The sources of a plan without faults are read where their readers read.
use Rattle.std.proofs.Common.{◌≡◌, ℕ, zero, suc, ◌+◌, ◌<◌, ◌≤◌, Bool, true, false, ◌==◌, List, [], ◌∷◌, ◌++◌, length, refl, ap, sym, ◌∙◌, subst, arith, eq-eqb, length-append}
use Rattle.std.specs.Prelude.{None, Some, is_none, not, ◌&&◌, ◌||◌, drop, nat_le}
use Rattle.std.specs.List.{AllByRecursion, list_all, list_any, slice_get}
use Rattle.std.proofs.lemmas.Bool.Decides.{nat_tests}
use Rattle.std.proofs.lemmas.List.{append_assoc, append-nil, length_push}
use Rattle.std.proofs.lemmas.List.Folds.{list_any-append}
use Rattle.td_plan.specs.declared.vertex.Kind.{Kind}
use Rattle.td_plan.specs.declared.vertex.Kind.TheVariants.{Enter, Feedback, Leave}
use Rattle.td_plan.specs.declared.vertex.Loop.{Loop}
use Rattle.td_plan.specs.Lines.{Vertex, Line}
use Rattle.td_plan.specs.Lines.Line.{vertex, loop, end}
use Rattle.td_plan.specs.Blocks.{PlacedVertex, Scope, no_scope, scope_after, vertices, is_read_on, is_source_on, reading_loops}
use Rattle.td_plan.specs.Faults.{Fault, has_fault, faults, fault_of, is_faultless, is_feedback, is_fold, is_enter, is_in_loop, is_of_loops, is_of_outermost, enters_from_within, reads_elsewhere, is_stray, is_stray_feedback, IsPlan}
use Rattle.td_plan.specs.Tree.{Nodes, tree_of, lines_of, size, placed_in}
use Rattle.td_plan.specs.Tree.Nodes.{done, node, block}
use Rattle.td_plan.specs.Placed.{leaves_of, read_of, read_in, readable, IsWellPlaced, IsPlacedTree}
use Rattle.td_plan.proofs.Readings.{both}
use Rattle.td_plan.proofs.Trees.{scope, rest_faultless, length-placed, numbered, none_found, neither, sourced, walk, tree_lines, tree_numbered, tree_vertices}
use Rattle.td_plan.proofs.ReadOn.{all_append, all_weaker, IsAmong, among_right, InOrder, order_left, Covers, covers_left, covers_right, covers_append, none_covered, found, leaves_covered, read_covered, block_covered, none_before, AreLater, AllLater, none_after, around_later, all_still_later, placed_later, placed_order}

-- PARTS OF A LIST OF VERTICES
seam : (xs : List PlacedVertex) (y : PlacedVertex) (ys : List PlacedVertex) → slice_get (xs ++ y ∷ ys) (length xs) ≡ Some y
seam [] y ys = refl
seam (x ∷ xs) y ys = seam xs y ys

on_fewer : (there : List Loop) (xs ys : List PlacedVertex) (s : ℕ) → s < length xs → is_source_on there (xs ++ ys) s ≡ true → is_source_on there xs s ≡ true
on_fewer there [] ys s h on = absurd (omega arith)
on_fewer there (x ∷ xs) ys zero h on = on
on_fewer there (x ∷ xs) ys (suc s) h on = on_fewer there xs ys s (omega arith) on

pub on_more : (there : List Loop) (xs ys : List PlacedVertex) (s : ℕ) → is_source_on there xs s ≡ true → is_source_on there (xs ++ ys) s ≡ true
on_more there [] ys s on = absurd (cc)
on_more there (x ∷ xs) ys zero on = on
on_more there (x ∷ xs) ys (suc s) on = on_more there xs ys s on

pub all_true : (f : ℕ → Bool) (xs : List ℕ) → list_all f xs ≡ true → AllByRecursion (λ x. f x ≡ true) xs
all_true f [] h = tt
all_true f (x ∷ xs) h = let parts = both (f x) (list_all f xs) h in (parts.0, all_true f xs parts.1)

all_false : (f : ℕ → Bool) (xs : List ℕ) → list_any f xs ≡ false → AllByRecursion (λ x. f x ≡ false) xs
all_false f [] h = tt
all_false f (x ∷ xs) h = let parts = neither (f x) (list_any f xs) h in (parts.0, all_false f xs parts.1)

all_both : (P Q R : ℕ → Type 0) → ((x : ℕ) → P x → Q x → R x) → (xs : List ℕ) → AllByRecursion P xs → AllByRecursion Q xs → AllByRecursion R xs
all_both P Q R f [] p q = tt
all_both P Q R f (x ∷ xs) p q = (f x p.0 q.0, all_both P Q R f xs p.1 q.1)

below : (n s : ℕ) → nat_le n s ≡ false → s < n
below n s h = grind (arith, nat_tests)

pub not_false : (b : Bool) → not b ≡ false → b ≡ true
not_false true h = refl
not_false false h = absurd (cc)

-- A VERTEX WITHOUT A FAULT
-- it stands where its kind may, and its sources are read on the block on which it reads
record Stands (final vs : List PlacedVertex) (ls : List Loop) (kind : Kind) (sources : List ℕ) : Type 0 where
  fits : (not (is_in_loop ls) && is_of_loops kind) ≡ false
  enters : (is_enter kind && enters_from_within ls sources) ≡ false
  reads : is_feedback kind ≡ false → list_all (is_source_on (reading_loops kind ls) vs) sources ≡ true
  returns : (is_feedback kind && reads_elsewhere ls final sources) ≡ false

alike : (a b : Bool) → (a && (a && b)) ≡ false → (a && b) ≡ false
alike true b h = h
alike false b h = h

stands : (plan : List Line) (vs : List PlacedVertex) (ls : List Loop) (v : Vertex) (more : List PlacedVertex) → is_none (fault_of (scope vs ls) (vertex v)) ≡ true
    → is_stray plan (vertex v) ≡ false → vertices plan ≡ vs ++ record { vertex = v; loops = ls } ∷ more → Stands (vertices plan) vs ls v.kind v.sources
stands plan vs ls v more none stray whole =
    let here : PlacedVertex = record { vertex = v; loops = ls } in
    let p : Fault → Bool = has_fault (scope vs ls) (vertex v) in
    let a = none_found p Fault.syntax (drop 1 faults) none in
    let b = none_found p Fault.number (drop 2 faults) a.1 in
    let c = none_found p Fault.order (drop 3 faults) b.1 in
    let d = none_found p Fault.nest (drop 4 faults) c.1 in
    let elsewhere = not (is_feedback v.kind) && not (is_fold v.kind && is_in_loop ls) && reads_elsewhere (reading_loops v.kind ls) vs v.sources in
    let misplaced = (is_in_loop ls && is_of_outermost v.kind) || (not (is_in_loop ls) && is_of_loops v.kind) in
    let at : slice_get (vertices plan) v.number ≡ Some here = (λ i. slice_get (whole i) (numbered vs ls v none i)) ∙ seam vs here more in
    record {
      fits = (neither (is_in_loop ls && is_of_outermost v.kind) (not (is_in_loop ls) && is_of_loops v.kind) (neither misplaced elsewhere d.0).0).1;
      enters = (neither (not (is_feedback v.kind) && list_any (λ s. nat_le v.number s) v.sources) (is_enter v.kind && enters_from_within ls v.sources) c.0).1;
      reads = sourced vs ls v none;
      returns = alike (is_feedback v.kind) (reads_elsewhere ls (vertices plan) v.sources) (sym (ap (λ o. is_feedback v.kind && elim o [ None ↦ false | Some q ↦ is_stray_feedback (vertices plan) q ]) at) ∙ stray);
    }

-- WHAT IS KNOWN IN A BLOCK
-- the vertices before its loop that are read around it
abbrev Enters : List PlacedVertex → List ℕ → List Loop → Type 0
Enters final outer [] = Unit {0}
Enters final outer (l ∷ around) = (s : ℕ) → s < l.first → is_source_on around final s ≡ true → IsAmong outer s

-- and those of the whole plan that are read on it
abbrev Returns : List PlacedVertex → List ℕ → List Loop → Type 0
Returns final all [] = Unit {0}
Returns final all (l ∷ around) = (s : ℕ) → is_source_on (l ∷ around) final s ≡ true → IsAmong all s

record Known (final vs : List PlacedVertex) (ls : List Loop) (all outer own : List ℕ) : Type 0 where
  owns : Covers own ls vs
  enters : Enters final outer ls
  returns : Returns final all ls

own_sources : (vs : List PlacedVertex) (ls : List Loop) (own sources : List ℕ) → InOrder 0 vs → Covers own ls vs → list_all (is_source_on ls vs) sources ≡ true → AllByRecursion (IsAmong own) sources
own_sources vs ls own sources order owns reads =
    all_weaker (λ s. is_source_on ls vs s ≡ true) (IsAmong own) (λ s on. found ls own vs s order owns on) sources (all_true (is_source_on ls vs) sources reads)

sources_placed : (kind : Kind) (ls : List Loop) (final vs more : List PlacedVertex) (all outer own sources : List ℕ) → final ≡ vs ++ more → InOrder 0 vs → Stands final vs ls kind sources
    → Known final vs ls all outer own → AllByRecursion (IsAmong (readable all outer own kind)) sources
sources_placed Enter [] final vs more all outer own sources whole order s k = absurd (cc (s.fits))
sources_placed Enter (l ∷ around) final vs more all outer own sources whole order s k =
    all_both (λ x. is_source_on around vs x ≡ true) (λ x. nat_le l.first x ≡ false) (IsAmong outer)
    (λ x on late. k.enters x (below l.first x late) (subst (λ ps. is_source_on around ps x ≡ true) (sym whole) (on_more around vs more x on))) sources
    (all_true (is_source_on around vs) sources (s.reads refl)) (all_false (λ x. nat_le l.first x) sources s.enters)
sources_placed Feedback [] final vs more all outer own sources whole order s k = absurd (cc (s.fits))
sources_placed Feedback (l ∷ around) final vs more all outer own sources whole order s k =
    all_weaker (λ x. is_source_on (l ∷ around) final x ≡ true) (IsAmong all) (λ x on. k.returns x on) sources
    (all_true (is_source_on (l ∷ around) final) sources (not_false (list_all (is_source_on (l ∷ around) final) sources) s.returns))
sources_placed _ ls final vs more all outer own sources whole order s k = own_sources vs ls own sources order k.owns (s.reads refl)

-- a vertex outside loops is no leave
read_here : (kind : Kind) (ls : List Loop) (v : Vertex) → (not (is_in_loop ls) && is_of_loops kind) ≡ false → is_read_on ls (record { vertex = record { number = v.number; kind = kind; sources = v.sources }; loops = ls }) ≡ true
    → IsAmong (read_of v kind) v.number
read_here kind (l ∷ ls) v fits on = read_covered v kind l ls on
read_here kind [] v fits on = by kind fits on
  where
    by : (kind : Kind) → (not (is_in_loop []) && is_of_loops kind) ≡ false → is_read_on [] (record { vertex = record { number = v.number; kind = kind; sources = v.sources }; loops = [] }) ≡ true → IsAmong (read_of v kind) v.number
    by Leave fits on = absurd (cc)
    by _ fits on = ap (λ b. b || false) (eq-eqb v.number v.number refl)

-- ONE NODE ON
known_after_vertex : (final vs : List PlacedVertex) (ls : List Loop) (all outer own : List ℕ) (v : Vertex) → (not (is_in_loop ls) && is_of_loops v.kind) ≡ false → Known final vs ls all outer own
    → Known final (vs ++ record { vertex = v; loops = ls } ∷ []) ls all outer (own ++ read_of v v.kind)
known_after_vertex final vs ls all outer own v fits k =
    let here : PlacedVertex = record { vertex = v; loops = ls } in
    record {
      owns = covers_append (own ++ read_of v v.kind) ls vs (here ∷ []) (covers_left own (read_of v v.kind) ls vs k.owns) (λ on. among_right own (read_of v v.kind) v.number (read_here v.kind ls v fits on), tt);
      enters = k.enters;
      returns = k.returns;
    }

known_after_loop : (final vs : List PlacedVertex) (ls : List Loop) (all outer own : List ℕ) (l : Loop) (n : ℕ) (body : Nodes) → Known final vs ls all outer own
    → Known final (vs ++ placed_in (l ∷ ls) n body) ls all outer (own ++ leaves_of body)
known_after_loop final vs ls all outer own l n body k =
    let inside : List PlacedVertex = placed_in (l ∷ ls) n body in
    record {
      owns = covers_append (own ++ leaves_of body) ls vs inside (covers_left own (leaves_of body) ls vs k.owns) (covers_right own (leaves_of body) ls inside (leaves_covered body l ls n));
      enters = k.enters;
      returns = k.returns;
    }

-- INTO A LOOP
known_inside : (final vs : List PlacedVertex) (ls : List Loop) (all outer own : List ℕ) (b : ℕ) (body : Nodes) (later : List PlacedVertex) (m depth : ℕ)
    → let l : Loop = record { first = length vs; bound = b } in InOrder 0 final → final ≡ vs ++ (placed_in (l ∷ ls) (length vs) body ++ later) → length vs < m → depth ≤ length ls → AllLater m depth later
    → Known final vs ls all outer own → Known final vs (l ∷ ls) (read_in body) own []
known_inside final vs ls all outer own b body later m depth order whole lt h late k =
    let l : Loop = record { first = length vs; bound = b } in
    let inside : List PlacedVertex = placed_in (l ∷ ls) (length vs) body in
    let before : InOrder 0 vs = order_left vs (inside ++ later) 0 (subst (InOrder 0) whole order) in
    let none = none_before vs 0 l ls before (omega arith) in
    let after : Covers (read_in body) (l ∷ ls) (inside ++ later) =
    covers_append (read_in body) (l ∷ ls) inside later (block_covered body l ls (length vs)) (none_covered (read_in body) (l ∷ ls) later (none_after later l ls m depth lt h late)) in
    let covered : Covers (read_in body) (l ∷ ls) (vs ++ (inside ++ later)) = covers_append (read_in body) (l ∷ ls) vs (inside ++ later) (none_covered (read_in body) (l ∷ ls) vs none) after in
    record {
      owns = none_covered [] (l ∷ ls) vs none;
      enters = λ s lt on. found ls own vs s before k.owns (on_fewer ls vs (inside ++ later) s lt (subst (λ ps. is_source_on ls ps s ≡ true) whole on));
      returns = λ s on. found (l ∷ ls) (read_in body) final s order (subst (Covers (read_in body) (l ∷ ls)) (sym whole) covered) on;
    }

-- a loop that ends holds a vertex
some_inside : (vs : List PlacedVertex) (ls : List Loop) (b : ℕ) (body : Nodes) (lines : List Line) → let l : Loop = record { first = length vs; bound = b } in
    is_faultless (scope (vs ++ placed_in (l ∷ ls) (length vs) body) (l ∷ ls)) (end ∷ lines) ≡ true → length vs < length vs + size body
some_inside vs ls b body lines f = by (size body) refl
  where
    l : Loop
    l = record { first = length vs; bound = b }

    at : Scope
    at = scope (vs ++ placed_in (l ∷ ls) (length vs) body) (l ∷ ls)

    ended : (length vs == length (vs ++ placed_in (l ∷ ls) (length vs) body)) ≡ false
    ended = (none_found (has_fault at end) Fault.syntax (drop 1 faults) (both (is_none (fault_of at end)) (is_faultless (scope_after at end) lines) f).0).0

    by : (n : ℕ) → size body ≡ n → length vs < length vs + n
    by (suc n) e = omega arith
    by zero e =
        let long : length (vs ++ placed_in (l ∷ ls) (length vs) body) ≡ length vs + length (placed_in (l ∷ ls) (length vs) body) = length-append vs (placed_in (l ∷ ls) (length vs) body) in
        let inside : length (placed_in (l ∷ ls) (length vs) body) ≡ size body = length-placed body (l ∷ ls) (length vs) in
        let same : (length vs == length (vs ++ placed_in (l ∷ ls) (length vs) body)) ≡ true = eq-eqb _ _ (omega arith) in
        absurd (cc (ended, same))

-- ALONG THE TREE
placed_walk : (plan : List Line) → InOrder 0 (vertices plan) → (nodes : Nodes) (vs : List PlacedVertex) (ls : List Loop) (lines : List Line) (later : List PlacedVertex) (all outer own : List ℕ)
    → is_faultless (scope vs ls) (lines_of nodes ++ lines) ≡ true → list_any (is_stray plan) (lines_of nodes) ≡ false
    → vertices plan ≡ vs ++ (placed_in ls (length vs) nodes ++ later) → AllLater (length vs + size nodes) (length ls) later → Known (vertices plan) vs ls all outer own
    → IsWellPlaced all outer own (length vs) nodes
placed_walk plan order done vs ls lines later all outer own f stray whole late k = tt
placed_walk plan order (node v rest) vs ls lines later all outer own f stray whole late k =
    let here : PlacedVertex = record { vertex = v; loops = ls } in
    let more : List PlacedVertex = placed_in ls (length vs + 1) rest ++ later in
    let parts = both (is_none (fault_of (scope vs ls) (vertex v))) (is_faultless (scope_after (scope vs ls) (vertex v)) (lines_of rest ++ lines)) f in
    let strays = neither (is_stray plan (vertex v)) (list_any (is_stray plan) (lines_of rest)) stray in
    let longer : length (vs ++ here ∷ []) ≡ length vs + 1 = length_push vs here in
    let s = stands plan vs ls v more parts.0 strays.0 whole in
    let sooner : vertices plan ≡ (vs ++ here ∷ []) ++ (placed_in ls (length (vs ++ here ∷ [])) rest ++ later) =
    whole ∙ sym (append_assoc vs (here ∷ []) more) ∙ ap (λ n. (vs ++ here ∷ []) ++ (placed_in ls n rest ++ later)) (sym longer) in
    let before : InOrder 0 vs = order_left vs (here ∷ more) 0 (subst (InOrder 0) whole order) in
    let as_late = all_still_later later (length (vs ++ here ∷ []) + size rest) (length vs + (1 + size rest)) (length ls) (length ls) (omega arith) (omega arith) late in
    let after = placed_walk plan order rest (vs ++ here ∷ []) ls lines later all outer (own ++ read_of v v.kind) parts.1 strays.1 sooner as_late (known_after_vertex (vertices plan) vs ls all outer own v s.fits k) in (
      numbered vs ls v parts.0,
      sources_placed v.kind ls (vertices plan) vs (here ∷ more) all outer own v.sources whole before s k,
      subst (λ n. IsWellPlaced all outer (own ++ read_of v v.kind) n rest) longer after,
    )
placed_walk plan order (block b body rest) vs ls lines later all outer own f stray whole late k =
    let l : Loop = record { first = length vs; bound = b } in
    let after = lines_of rest ++ lines in
    let split : lines_of (block b body rest) ++ lines ≡ loop b ∷ (lines_of body ++ end ∷ after) = ap (λ r. loop b ∷ r) (append_assoc (lines_of body) (end ∷ lines_of rest) lines) in
    let faultless : is_faultless (scope vs ls) (loop b ∷ (lines_of body ++ end ∷ after)) ≡ true = ap (is_faultless (scope vs ls)) (sym split) ∙ f in
    let begun = rest_faultless (scope vs ls) (loop b) (lines_of body ++ end ∷ after) faultless in
    let inner = walk body vs (l ∷ ls) (end ∷ after) begun in
    let inside : List PlacedVertex = placed_in (l ∷ ls) (length vs) body in
    let next : List PlacedVertex = placed_in ls (length vs + size body) rest in
    let longer : length (vs ++ inside) ≡ length vs + size body = length-append vs inside ∙ ap (λ n. length vs + n) (length-placed body (l ∷ ls) (length vs)) in
    let strays = neither (list_any (is_stray plan) (lines_of body)) (list_any (is_stray plan) (lines_of rest)) (sym (list_any-append (is_stray plan) (lines_of body) (end ∷ lines_of rest)) ∙ stray) in
    let some : length vs < length vs + size body = some_inside vs ls b body after inner.faultless in
    let whole_inside : vertices plan ≡ vs ++ (inside ++ (next ++ later)) = whole ∙ ap (λ ps. vs ++ ps) (append_assoc inside next later) in
    let whole_after : vertices plan ≡ (vs ++ inside) ++ (placed_in ls (length (vs ++ inside)) rest ++ later) =
    whole_inside ∙ sym (append_assoc vs inside (next ++ later)) ∙ ap (λ n. (vs ++ inside) ++ (placed_in ls n rest ++ later)) (sym longer) in
    let late_next : AllLater (length vs + size body) (length ls) (next ++ later) =
    all_append (λ p. AreLater (length vs + size body) (length ls) p.loops) next later (placed_later rest ls (length vs + size body) (length vs + size body) (length ls) (omega arith) (around_later ls (length vs + size body) (length ls) (omega arith)))
    (all_still_later later (length vs + size body) (length vs + (size body + size rest)) (length ls) (length ls) (omega arith) (omega arith) late) in
    let late_inside = all_still_later (next ++ later) (length vs + size body) (length vs + size body) (length (l ∷ ls)) (length ls) (omega arith) (omega arith) late_next in
    let late_after = all_still_later later (length (vs ++ inside) + size rest) (length vs + (size body + size rest)) (length ls) (length ls) (omega arith) (omega arith) late in
    let known = known_inside (vertices plan) vs ls all outer own b body (next ++ later) (length vs + size body) (length ls) order whole_inside some (omega arith) late_next k in
    let past = placed_walk plan order rest (vs ++ inside) ls lines later all outer (own ++ leaves_of body) (rest_faultless (scope (vs ++ inside) (l ∷ ls)) end after inner.faultless) strays.1 whole_after late_after
    (known_after_loop (vertices plan) vs ls all outer own l (length vs) body k) in (
      placed_walk plan order body vs (l ∷ ls) (end ∷ after) (next ++ later) (read_in body) own [] begun strays.0 whole_inside late_inside known,
      subst (λ n. IsWellPlaced all outer (own ++ leaves_of body) n rest) longer past,
    )

pub tree_placed : (plan : List Line) → IsPlan plan → IsPlacedTree (tree_of plan)
tree_placed plan p =
    let all : placed_in [] 0 (tree_of plan) ≡ vertices plan = tree_vertices plan p in
    let order : InOrder 0 (vertices plan) = subst (InOrder 0) all (placed_order (tree_of plan) [] 0 (tree_numbered plan p) tt) in
    placed_walk plan order (tree_of plan) [] [] [] [] (read_in (tree_of plan)) [] [] (ap (is_faultless no_scope) (append-nil (lines_of (tree_of plan)) ∙ tree_lines plan p) ∙ p.faultless)
    (ap (list_any (is_stray plan)) (tree_lines plan p) ∙ p.none_stray) (sym (append-nil (placed_in [] 0 (tree_of plan)) ∙ all)) tt (record { owns = tt; enters = tt; returns = tt })
