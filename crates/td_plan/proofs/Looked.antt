-- Look-ups: the vertex of a number, and the edge of a port.
use Rattle.std.proofs.Common.{◌≡◌, ℕ, zero, suc, ◌+◌, List, [], ◌∷◌, ◌++◌, length, take, map, refl, sym, ap, ◌∙◌, arith, subst}
use Rattle.std.specs.Prelude.{Option, Some, None, option_map, flat_map}
use Rattle.std.specs.List.{slice_get, enumerate_from}
use Rattle.std.proofs.lemmas.List.Sums.{sum_by-cons}
use Rattle.td_plan.specs.declared.vertex.Edge.{Edge}
use Rattle.td_plan.specs.declared.vertex.Loop.{Loop}
use Rattle.td_plan.specs.Lines.{Line}
use Rattle.td_plan.specs.Blocks.{PlacedVertex, vertices, edges, edges_to, edge_at, edge_count, sources_at, bounds, reading_loops, read_loops}
use Rattle.td_plan.specs.Faults.{IsPlan}
use Rattle.td_plan.specs.LookedUp.{IsLookedUp}
use Rattle.td_plan.specs.Tree.{Nodes, size, placed_in, tree_of, IsNumbered}
use Rattle.td_plan.specs.Tree.Nodes.{done, node, block}
use Rattle.td_plan.proofs.Edges.{edge_from}
use Rattle.td_plan.proofs.Growth.{length-edges_to}
use Rattle.td_plan.proofs.Trees.{length-placed, tree_numbered, tree_vertices}

-- NUMBERS
abbrev pub CountUp : ℕ → List PlacedVertex → Type 0
CountUp n [] = Unit {0}
CountUp n (p ∷ ps) = (p.vertex.number ≡ n) × CountUp (n + 1) ps

count_append : (n : ℕ) (xs ys : List PlacedVertex) → CountUp n xs → CountUp (n + length xs) ys → CountUp n (xs ++ ys)
count_append n [] ys c d = subst (λ k. CountUp k ys) (let z : n + 0 ≡ n = omega arith in z) d
count_append n (x ∷ xs) ys c d = (c.0, count_append (n + 1) xs ys c.1 (subst (λ k. CountUp k ys) (let z : n + length (x ∷ xs) ≡ n + 1 + length xs = omega arith in z) d))

pub count_placed : (ns : Nodes) (ls : List Loop) (n : ℕ) → IsNumbered n ns → CountUp n (placed_in ls n ns)
count_placed done ls n h = tt
count_placed (node v rest) ls n h = (h.0, count_placed rest ls (n + 1) h.1)
count_placed (block b body rest) ls n h =
    let inside = placed_in (record { first = n; bound = b } ∷ ls) n body in
    count_append n inside (placed_in ls (n + size body) rest) (count_placed body (record { first = n; bound = b } ∷ ls) n h.0)
    (subst (λ k. CountUp (n + k) (placed_in ls (n + size body) rest)) (sym (length-placed body (record { first = n; bound = b } ∷ ls) n)) (count_placed rest ls (n + size body) h.1))

count_at : (n : ℕ) (ps : List PlacedVertex) (i : ℕ) (p : PlacedVertex) → CountUp n ps → slice_get ps i ≡ Some p → p.vertex.number ≡ n + i
count_at n [] i p c at = absurd (cc)
count_at n (q ∷ ps) zero p c at = let same : q ≡ p = cc in ap (λ r. r.vertex.number) (sym same) ∙ c.0 ∙ omega arith
count_at n (q ∷ ps) (suc i) p c at = let r = count_at (n + 1) ps i p c.1 at in omega arith

pub number_at : (plan : List Line) (v : ℕ) (p : PlacedVertex) → IsPlan plan → slice_get (vertices plan) v ≡ Some p → p.vertex.number ≡ v
number_at plan v p lawful at =
    let counted : CountUp 0 (vertices plan) = subst (CountUp 0) (tree_vertices plan lawful) (count_placed (tree_of plan) [] 0 (tree_numbered plan lawful)) in
    count_at 0 (vertices plan) v p counted at ∙ omega arith

pub vertex_found : (plan : List Line) (v : ℕ) (p : PlacedVertex) → IsPlan plan → slice_get (vertices plan) v ≡ Some p → IsLookedUp plan v p
vertex_found plan v p lawful at = record {
  number = number_at plan v p lawful at;
  kind = ap (option_map (λ q. q.vertex.kind)) at;
  sources = ap (λ o. elim o [ None ↦ [] | Some q ↦ q.vertex.sources ]) at;
  loops = ap (λ o. elim o [ None ↦ [] | Some q ↦ q.loops ]) at;
  bound = ap (λ o. slice_get (bounds (elim o [ None ↦ [] | Some q ↦ q.loops ])) 0) at;
  reads_on = ap (λ o. elim o [ None ↦ [] | Some q ↦ reading_loops q.vertex.kind q.loops ]) at;
  read_on = ap (λ o. elim o [ None ↦ None | Some q ↦ read_loops q.vertex.kind q.loops ]) at;
}

-- EDGES
get_left : (xs ys : List Edge) (i : ℕ) (e : Edge) → slice_get xs i ≡ Some e → slice_get (xs ++ ys) i ≡ Some e
get_left [] ys i e at = absurd (cc)
get_left (x ∷ xs) ys zero e at = at
get_left (x ∷ xs) ys (suc i) e at = get_left xs ys i e at

get_right : (xs ys : List Edge) (i j : ℕ) → j ≡ length xs + i → slice_get (xs ++ ys) j ≡ slice_get ys i
get_right [] ys i j e = ap (slice_get ys) (e ∙ omega arith)
get_right (x ∷ xs) ys i zero e = absurd (omega arith)
get_right (x ∷ xs) ys i (suc j) e = get_right xs ys i j (omega arith)

port_from : (reader n : ℕ) (ss : List ℕ) (i s : ℕ) → slice_get ss i ≡ Some s → slice_get (map (edge_from reader) (enumerate_from n ss)) i ≡ Some (record { source = s; reader = reader; port = n + i })
port_from reader n [] i s at = absurd (cc)
port_from reader n (x ∷ ss) zero s at =
    let same : x ≡ s = cc in
    let first : n ≡ n + 0 = omega arith in
    λ i. Some (record { source = same i; reader = reader; port = first i })
port_from reader n (x ∷ ss) (suc i) s at =
    port_from reader (n + 1) ss i s at ∙ ap (λ k. Some (record { source = s; reader = reader; port = k })) (let z : n + 1 + i ≡ n + suc i = omega arith in z)

found : (vs : List PlacedVertex) (r port s : ℕ) (p : PlacedVertex) → slice_get vs r ≡ Some p → slice_get p.vertex.sources port ≡ Some s
    → slice_get (flat_map edges_to vs) (edge_count (take r vs) + port) ≡ Some (record { source = s; reader = p.vertex.number; port = port })
found [] r port s p at source = absurd (cc)
found (q ∷ vs) zero port s p at source =
    let same : p ≡ q = cc in
    let here : slice_get q.vertex.sources port ≡ Some s = ap (λ r. slice_get r.vertex.sources port) (sym same) ∙ source in
    let index : 0 + port ≡ port = omega arith in
    ap (slice_get (flat_map edges_to (q ∷ vs))) index
    ∙ get_left (edges_to q) (flat_map edges_to vs) port _ (port_from q.vertex.number 0 q.vertex.sources port s here)
    ∙ (λ i. Some (record { source = s; reader = (sym same i).vertex.number; port = index i }))
found (q ∷ vs) (suc r) port s p at source =
    let first = sum_by-cons (λ (x : PlacedVertex). length x.vertex.sources) q (take r vs) in
    let count = length-edges_to q in
    get_right (edges_to q) (flat_map edges_to vs) (edge_count (take r vs) + port) (edge_count (take (suc r) (q ∷ vs)) + port) (omega (arith, first, count)) ∙ found vs r port s p at source

pub edge_found : (plan : List Line) (reader port source : ℕ) → IsPlan plan → slice_get (sources_at plan reader) port ≡ Some source
    → slice_get (edges plan) (edge_at plan reader port) ≡ Some (record { source = source; reader = reader; port = port })
edge_found plan reader port source lawful at = by (slice_get (vertices plan) reader) refl at
  where
    by : (o : Option PlacedVertex) → slice_get (vertices plan) reader ≡ o → slice_get (elim o [ None ↦ [] | Some q ↦ q.vertex.sources ]) port ≡ Some source
        → slice_get (edges plan) (edge_at plan reader port) ≡ Some (record { source = source; reader = reader; port = port })
    by None here at = absurd (cc)
    by (Some p) here at =
        found (vertices plan) reader port source p here at ∙ ap (λ n. Some (record { source = source; reader = n; port = port })) (number_at plan reader p lawful here)
