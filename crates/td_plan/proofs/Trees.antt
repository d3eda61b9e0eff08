-- The tree of lines without a fault: its lines, its numbers and its vertices.
use Rattle.std.proofs.Common.{◌≡◌, ℕ, suc, ◌+◌, Bool, true, false, ◌==◌, List, [], ◌∷◌, ◌++◌, length, refl, ap, sym, ◌∙◌, subst, arith, length-append}
use Rattle.std.specs.Prelude.{Some, is_none, fold, find, not, ◌&&◌, ◌||◌, cond, drop}
use Rattle.std.specs.List.{list_all}
use Rattle.std.proofs.lemmas.List.{append_assoc, append-nil, length_push}
use Rattle.std.proofs.lemmas.Bool.{eqb-true}
use Rattle.td_plan.specs.declared.vertex.Loop.{Loop}
use Rattle.td_plan.specs.Lines.{Vertex, Line}
use Rattle.td_plan.specs.Lines.Line.{vertex, loop, end}
use Rattle.td_plan.specs.Blocks.{PlacedVertex, Scope, no_scope, scope_after, vertices, reading_loops, is_source_on}
use Rattle.td_plan.specs.Faults.{Fault, has_fault, fault_of, faults, is_faultless, is_nil, is_fold, is_feedback, is_in_loop, is_of_outermost, is_of_loops, IsPlan}
use Rattle.td_plan.specs.Sources.{ReadsAmong, ReadEarlier}
use Rattle.td_plan.specs.Tree.{Nodes, Rest, opened, rest_of, tree_of, lines_of, size, placed_in, IsNumbered}
use Rattle.td_plan.specs.Tree.Nodes.{done, node, block}
use Rattle.td_plan.proofs.Readings.{both}

abbrev pub scope : List PlacedVertex → List Loop → Scope
scope vs ls = record { vertices = vs; loops = ls }

nil_length : (ls : List Loop) → is_nil ls ≡ true → 0 ≡ length ls
nil_length [] e = refl
nil_length (l ∷ ls) e = cc

-- THE LINES OF THE TREE
-- the lines of what follows each loop that is not opened
abbrev flat : List Nodes → List Line
flat [] = []
flat (ns ∷ more) = end ∷ lines_of ns ++ flat more

abbrev lines_back : Rest → List Line
lines_back r = lines_of r.inside ++ flat r.after

opened_back : (bound : ℕ) (r : Rest) (n : ℕ) → length r.after ≡ suc n → (lines_back (opened bound r) ≡ loop bound ∷ lines_back r) × (length (opened bound r).after ≡ n)
opened_back bound r n e = by r.inside r.after e
  where
    by : (inside : Nodes) (after : List Nodes) → length after ≡ suc n
        → (lines_back (opened bound (record { inside = inside; after = after })) ≡ loop bound ∷ lines_of inside ++ flat after) × (length (opened bound (record { inside = inside; after = after })).after ≡ n)
    by inside [] e = absurd (omega (arith, e))
    by inside (next ∷ outer) e = (ap (λ l. loop bound ∷ l) (append_assoc (lines_of inside) (end ∷ lines_of next) (flat outer)), omega (arith, e))

pub rest_faultless : (s : Scope) (line : Line) (lines : List Line) → is_faultless s (line ∷ lines) ≡ true → is_faultless (scope_after s line) lines ≡ true
rest_faultless s line lines f = (both (is_none (fault_of s line)) (is_faultless (scope_after s line) lines) f).1

back : (lines : List Line) (vs : List PlacedVertex) (ls : List Loop) → is_faultless (scope vs ls) lines ≡ true → is_nil (fold scope_after (scope vs ls) lines).loops ≡ true
    → (lines_back (rest_of lines) ≡ lines) × (length (rest_of lines).after ≡ length ls)
back [] vs ls f c = (refl, nil_length ls c)
back (vertex v ∷ lines) vs ls f c =
    let r = back lines (vs ++ record { vertex = v; loops = ls } ∷ []) ls (rest_faultless (scope vs ls) (vertex v) lines f) c in (ap (λ ls. vertex v ∷ ls) r.0, r.1)
back (loop bound ∷ lines) vs ls f c =
    let r = back lines vs (record { first = length vs; bound = bound } ∷ ls) (rest_faultless (scope vs ls) (loop bound) lines f) c in
    let p = opened_back bound (rest_of lines) (length ls) r.1 in
    (p.0 ∙ ap (λ ls. loop bound ∷ ls) r.0, p.1)
back (end ∷ lines) vs [] f c = absurd (cc)
back (end ∷ lines) vs (l ∷ ls) f c = let r = back lines vs ls (rest_faultless (scope vs (l ∷ ls)) end lines f) c in (ap (λ ls. end ∷ ls) r.0, ap suc r.1)

pub tree_lines : (plan : List Line) → IsPlan plan → lines_of (tree_of plan) ≡ plan
tree_lines plan p = let r = back plan [] [] p.faultless p.closed in by (rest_of plan).after r.1 r.0
  where
    by : (after : List Nodes) → length after ≡ 0 → lines_of (rest_of plan).inside ++ flat after ≡ plan → lines_of (tree_of plan) ≡ plan
    by [] e p = sym (append-nil (lines_of (tree_of plan))) ∙ p
    by (ns ∷ after) e p = absurd (omega (arith, e))

-- THE VERTICES OF THE TREE
pub length-placed : (ns : Nodes) (ls : List Loop) (n : ℕ) → length (placed_in ls n ns) ≡ size ns
length-placed done ls n = refl
length-placed (node v rest) ls n = let r = length-placed rest ls (n + 1) in omega (arith, r)
length-placed (block b body rest) ls n =
    let r = length-placed body (record { first = n; bound = b } ∷ ls) n in
    let q = length-placed rest ls (n + size body) in
    omega (arith, r, q, length-append (placed_in (record { first = n; bound = b } ∷ ls) n body) (placed_in ls (n + size body) rest))

-- the number of a vertex without a fault is the count of those before it
pub numbered : (vs : List PlacedVertex) (ls : List Loop) (v : Vertex) → is_none (fault_of (scope vs ls) (vertex v)) ≡ true → v.number ≡ length vs
numbered vs ls v e = by (v.number == length vs) refl
  where
    by : (b : Bool) → (v.number == length vs) ≡ b → v.number ≡ length vs
    by true t = eqb-true v.number (length vs) t
    by false t = absurd (let r : fault_of (scope vs ls) (vertex v) ≡ Some Fault.number = rw t refl in let q : is_none (fault_of (scope vs ls) (vertex v)) ≡ false = ap is_none r in cc)

-- where none is found, the first is not such a one, and none is found among the others
pub none_found : {X : Type 0} (p : X → Bool) (x : X) (xs : List X) → is_none (find p (x ∷ xs)) ≡ true → (p x ≡ false) × (is_none (find p xs) ≡ true)
none_found p x xs e = by (p x) refl e
  where
    by : (b : Bool) → p x ≡ b → is_none (cond b (Some x) (find p xs)) ≡ true → (p x ≡ false) × (is_none (find p xs) ≡ true)
    by true t e = absurd (cc)
    by false t e = (t, e)

pub neither : (a b : Bool) → (a || b) ≡ false → (a ≡ false) × (b ≡ false)
neither true b e = absurd (cc)
neither false b e = (refl, e)

-- what is left of the fault Nest, where the others that it leaves aside do not hold
read_there : (feedback fold all : Bool) → (not feedback && not fold && not all) ≡ false → fold ≡ false → feedback ≡ false → all ≡ true
read_there true fold all e f g = absurd (cc)
read_there false true all e f g = absurd (cc)
read_there false false true e f g = refl
read_there false false false e f g = absurd (cc)

-- a vertex without a fault reads among those before it
pub sourced : (vs : List PlacedVertex) (ls : List Loop) (v : Vertex) → is_none (fault_of (scope vs ls) (vertex v)) ≡ true → ReadsAmong vs (record { vertex = v; loops = ls })
sourced vs ls v e no_feedback =
    let p : Fault → Bool = has_fault (scope vs ls) (vertex v) in
    let a = none_found p Fault.syntax (drop 1 faults) e in
    let b = none_found p Fault.number (drop 2 faults) a.1 in
    let c = none_found p Fault.order (drop 3 faults) b.1 in
    let d = none_found p Fault.nest (drop 4 faults) c.1 in
    let f = none_found p Fault.bound (drop 5 faults) d.1 in
    let g = none_found p Fault.fold_in_loop (drop 6 faults) f.1 in
    let all = list_all (is_source_on (reading_loops v.kind ls) vs) v.sources in
    let elsewhere = not (is_feedback v.kind) && not (is_fold v.kind && is_in_loop ls) && not all in
    let last : elsewhere ≡ false = (neither ((is_in_loop ls && is_of_outermost v.kind) || (not (is_in_loop ls) && is_of_loops v.kind)) elsewhere d.0).1 in
    read_there (is_feedback v.kind) (is_fold v.kind && is_in_loop ls) all last g.0 no_feedback

-- vertices one after the other
read_on : (before ps qs : List PlacedVertex) → ReadEarlier before ps → ReadEarlier (before ++ ps) qs → ReadEarlier before (ps ++ qs)
read_on before [] qs h k = subst (λ ws. ReadEarlier ws qs) (append-nil before) k
read_on before (p ∷ ps) qs h k = (h.0, read_on (before ++ p ∷ []) ps qs h.1 (subst (λ ws. ReadEarlier ws qs) (sym (append_assoc before (p ∷ []) ps)) k))

-- Of the lines of some nodes and others after them: the nodes are numbered on, and the others follow them
pub record Walked (ns : Nodes) (vs : List PlacedVertex) (ls : List Loop) (lines : List Line) : Type 0 where
  pub numbers : IsNumbered (length vs) ns
  pub sources : ReadEarlier vs (placed_in ls (length vs) ns)
  pub faultless : is_faultless (scope (vs ++ placed_in ls (length vs) ns) ls) lines ≡ true
  pub scope_is : fold scope_after (scope vs ls) (lines_of ns ++ lines) ≡ fold scope_after (scope (vs ++ placed_in ls (length vs) ns) ls) lines

pub walk : (ns : Nodes) (vs : List PlacedVertex) (ls : List Loop) (lines : List Line) → is_faultless (scope vs ls) (lines_of ns ++ lines) ≡ true → Walked ns vs ls lines
walk done vs ls lines f = record {
  numbers = tt;
  sources = tt;
  faultless = ap (λ ws. is_faultless (scope ws ls) lines) (append-nil vs) ∙ f;
  scope_is = ap (λ ws. fold scope_after (scope ws ls) lines) (sym (append-nil vs));
}
walk (node v rest) vs ls lines f =
    let parts = both (is_none (fault_of (scope vs ls) (vertex v))) (is_faultless (scope_after (scope vs ls) (vertex v)) (lines_of rest ++ lines)) f in
    let here : PlacedVertex = record { vertex = v; loops = ls } in
    let r = walk rest (vs ++ here ∷ []) ls lines parts.1 in
    let longer : length (vs ++ here ∷ []) ≡ length vs + 1 = length_push vs here in
    let same : (vs ++ here ∷ []) ++ placed_in ls (length (vs ++ here ∷ [])) rest ≡ vs ++ here ∷ placed_in ls (length vs + 1) rest =
    append_assoc vs (here ∷ []) (placed_in ls (length (vs ++ here ∷ [])) rest) ∙ ap (λ n. vs ++ here ∷ placed_in ls n rest) longer in
    record {
      numbers = (numbered vs ls v parts.0, subst (λ n. IsNumbered n rest) longer r.numbers);
      sources = (sourced vs ls v parts.0, subst (λ n. ReadEarlier (vs ++ here ∷ []) (placed_in ls n rest)) longer r.sources);
      faultless = ap (λ ws. is_faultless (scope ws ls) lines) (sym same) ∙ r.faultless;
      scope_is = r.scope_is ∙ ap (λ ws. fold scope_after (scope ws ls) lines) same;
    }
walk (block b body rest) vs ls lines f =
    let l : Loop = record { first = length vs; bound = b } in
    let after = lines_of rest ++ lines in
    let split : lines_of (block b body rest) ++ lines ≡ loop b ∷ (lines_of body ++ end ∷ after) = ap (λ r. loop b ∷ r) (append_assoc (lines_of body) (end ∷ lines_of rest) lines) in
    let whole : is_faultless (scope vs ls) (loop b ∷ (lines_of body ++ end ∷ after)) ≡ true = ap (is_faultless (scope vs ls)) (sym split) ∙ f in
    let inner = walk body vs (l ∷ ls) (end ∷ after) (rest_faultless (scope vs ls) (loop b) (lines_of body ++ end ∷ after) whole) in
    let inside = placed_in (l ∷ ls) (length vs) body in
    let r = walk rest (vs ++ inside) ls lines (rest_faultless (scope (vs ++ inside) (l ∷ ls)) end after inner.faultless) in
    let longer : length (vs ++ inside) ≡ length vs + size body = length-append vs inside ∙ ap (λ n. length vs + n) (length-placed body (l ∷ ls) (length vs)) in
    let same : (vs ++ inside) ++ placed_in ls (length (vs ++ inside)) rest ≡ vs ++ (inside ++ placed_in ls (length vs + size body) rest) =
    append_assoc vs inside (placed_in ls (length (vs ++ inside)) rest) ∙ ap (λ n. vs ++ (inside ++ placed_in ls n rest)) longer in
    record {
      numbers = (inner.numbers, subst (λ n. IsNumbered n rest) longer r.numbers);
      sources = read_on vs inside (placed_in ls (length vs + size body) rest) inner.sources (subst (λ n. ReadEarlier (vs ++ inside) (placed_in ls n rest)) longer r.sources);
      faultless = ap (λ ws. is_faultless (scope ws ls) lines) (sym same) ∙ r.faultless;
      scope_is = ap (fold scope_after (scope vs ls)) split ∙ inner.scope_is ∙ r.scope_is ∙ ap (λ ws. fold scope_after (scope ws ls) lines) same;
    }

plan_walked : (plan : List Line) → IsPlan plan → Walked (tree_of plan) [] [] []
plan_walked plan p = walk (tree_of plan) [] [] [] (ap (is_faultless no_scope) (append-nil (lines_of (tree_of plan)) ∙ tree_lines plan p) ∙ p.faultless)

pub tree_numbered : (plan : List Line) → IsPlan plan → IsNumbered 0 (tree_of plan)
tree_numbered plan p = (plan_walked plan p).numbers

pub tree_vertices : (plan : List Line) → IsPlan plan → placed_in [] 0 (tree_of plan) ≡ vertices plan
tree_vertices plan p = sym (ap (λ lines. (fold scope_after no_scope lines).vertices) (sym (append-nil (lines_of (tree_of plan)) ∙ tree_lines plan p)) ∙ ap (λ s. s.vertices) (plan_walked plan p).scope_is)

pub vertices_read : (plan : List Line) → IsPlan plan → ReadEarlier [] (vertices plan)
vertices_read plan p = subst (ReadEarlier []) (tree_vertices plan p) (plan_walked plan p).sources
