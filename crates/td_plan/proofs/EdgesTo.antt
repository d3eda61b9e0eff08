-- An edge of a plan by its number, and the edges that lead to a vertex.
use Rattle.std.proofs.Common.{◌≡◌, ℕ, zero, suc, ◌+◌, ◌≤◌, ◌⊎◌, inl, inr, Bool, true, false, ◌==◌, List, [], ◌∷◌, ◌++◌, length, take, map, filter, refl, sym, ap, ◌∙◌, arith, subst, eq-eqb, append-nil}
use Rattle.std.specs.Prelude.{Some, flat_map}
use Rattle.std.specs.List.{AllByRecursion, slice_get, enumerate_from}
use Rattle.std.proofs.lemmas.Bool.{ne_eqb}
use Rattle.std.proofs.lemmas.List.Elements.{filter-append}
use Rattle.std.proofs.lemmas.List.Sums.{sum_by-cons}
use Rattle.td_plan.specs.declared.vertex.Edge.{Edge}
use Rattle.td_plan.specs.Lines.{Line}
use Rattle.td_plan.specs.Blocks.{PlacedVertex, vertices, edges, edges_to, edge_at, edge_count, sources_at}
use Rattle.td_plan.specs.Faults.{IsPlan}
use Rattle.td_plan.specs.LookedUp.{IsSourceAt}
use Rattle.td_plan.specs.Tree.{tree_of}
use Rattle.td_plan.proofs.Edges.{edge_from}
use Rattle.td_plan.proofs.Growth.{length-edges_to}
use Rattle.td_plan.proofs.Looked.{CountUp, count_placed, number_at, vertex_found}
use Rattle.td_plan.proofs.ReadOn.{all_append, all_weaker}
use Rattle.td_plan.proofs.Trees.{tree_numbered, tree_vertices}

-- BY NUMBER
-- in the first list, or in the second
split : (xs ys : List Edge) (i : ℕ) (e : Edge) → slice_get (xs ++ ys) i ≡ Some e → (slice_get xs i ≡ Some e) ⊎ ((j : ℕ) × (i ≡ length xs + j) × (slice_get ys j ≡ Some e))
split [] ys i e at = inr (i, omega arith, at)
split (x ∷ xs) ys zero e at = inl at
split (x ∷ xs) ys (suc i) e at = by (split xs ys i e at)
  where
    by : (slice_get xs i ≡ Some e) ⊎ ((j : ℕ) × (i ≡ length xs + j) × (slice_get ys j ≡ Some e)) → (slice_get xs i ≡ Some e) ⊎ ((j : ℕ) × (suc i ≡ length (x ∷ xs) + j) × (slice_get ys j ≡ Some e))
    by (inl a) = inl a
    by (inr a) = inr (a.0, (let n = a.1 in omega (arith, n)), a.2)

-- the edge of a port
at_port : (reader n : ℕ) (ss : List ℕ) (i : ℕ) (e : Edge) → slice_get (map (edge_from reader) (enumerate_from n ss)) i ≡ Some e
    → (e.reader ≡ reader) × (e.port ≡ n + i) × (slice_get ss i ≡ Some e.source)
at_port reader n [] i e at = absurd (cc)
at_port reader n (s ∷ ss) zero e at =
    let same : edge_from reader (n, s) ≡ e = cc in
    (sym (ap (λ (x : Edge). x.reader) same), sym (ap (λ (x : Edge). x.port) same) ∙ omega arith, ap (λ (x : Edge). Some x.source) same)
at_port reader n (s ∷ ss) (suc i) e at = let r = at_port reader (n + 1) ss i e at in (r.0, (let p = r.1 in omega (arith, p)), r.2)

-- an edge among those that lead to some vertices: the place of its reader, and its own
record Leading (ps : List PlacedVertex) (i : ℕ) (e : Edge) : Type 0 where
  place : ℕ
  vertex : PlacedVertex
  at : slice_get ps place ≡ Some vertex
  reader : e.reader ≡ vertex.vertex.number
  source : slice_get vertex.vertex.sources e.port ≡ Some e.source
  number : edge_count (take place ps) + e.port ≡ i

leading : (ps : List PlacedVertex) (i : ℕ) (e : Edge) → slice_get (flat_map edges_to ps) i ≡ Some e → Leading ps i e
leading [] i e at = absurd (cc)
leading (q ∷ ps) i e at = by (λ j there. leading ps j e there) (split (edges_to q) (flat_map edges_to ps) i e at)
  where
    by : ((j : ℕ) → slice_get (flat_map edges_to ps) j ≡ Some e → Leading ps j e) → (slice_get (edges_to q) i ≡ Some e) ⊎ ((j : ℕ) × (i ≡ length (edges_to q) + j) × (slice_get (flat_map edges_to ps) j ≡ Some e)) → Leading (q ∷ ps) i e
    by more (inl a) =
        let p = at_port q.vertex.number 0 q.vertex.sources i e a in
        let port : i ≡ e.port = (let n = p.1 in omega (arith, n)) in
        record { place = 0; vertex = q; at = refl; reader = p.0; source = ap (slice_get q.vertex.sources) (sym port) ∙ p.2; number = omega (arith, port) }
    by more (inr a) =
        let r = more a.0 a.2 in
        let first : edge_count (q ∷ take r.place ps) ≡ length q.vertex.sources + edge_count (take r.place ps) = sum_by-cons (λ (x : PlacedVertex). length x.vertex.sources) q (take r.place ps) in
        let count = length-edges_to q in
        let n = r.number in
        let m = a.1 in
        record { place = suc r.place; vertex = r.vertex; at = r.at; reader = r.reader; source = r.source; number = omega (arith, first, count, n, m) }

module _ (plan : List Line) (lawful : IsPlan plan) (i : ℕ) (e : Edge) (at : slice_get (edges plan) i ≡ Some e) where
  there : Leading (vertices plan) i e
  there = leading (vertices plan) i e at

  -- the vertex to which it leads has its number
  reader_is : there.place ≡ e.reader
  reader_is = sym (number_at plan there.place there.vertex lawful there.at) ∙ sym there.reader

  pub edge_number : edge_at plan e.reader e.port ≡ i
  edge_number = ap (λ r. edge_count (take r (vertices plan)) + e.port) (sym reader_is) ∙ there.number

  pub edge_source : IsSourceAt plan e.reader e.port e.source
  edge_source =
      ap (λ r. slice_get (sources_at plan r) e.port) (sym reader_is) ∙ ap (λ ss. slice_get ss e.port) (vertex_found plan there.place there.vertex lawful there.at).sources ∙ there.source

-- TO ONE VERTEX
-- a filter that all pass, or none
filter_all : (p : Edge → Bool) (es : List Edge) → AllByRecursion (λ e. p e ≡ true) es → filter p es ≡ es
filter_all p [] h = refl
filter_all p (e ∷ es) h = rw (h.0, filter) (ap (λ l. e ∷ l) (filter_all p es h.1))

filter_none : (p : Edge → Bool) (es : List Edge) → AllByRecursion (λ e. p e ≡ false) es → filter p es ≡ []
filter_none p [] h = refl
filter_none p (e ∷ es) h = rw (h.0, filter) (filter_none p es h.1)

-- the readers
own_reader : (r n : ℕ) (ss : List ℕ) → AllByRecursion (λ (e : Edge). e.reader ≡ r) (map (edge_from r) (enumerate_from n ss))
own_reader r n [] = tt
own_reader r n (s ∷ ss) = (refl, own_reader r (n + 1) ss)

later_readers : (k : ℕ) (ps : List PlacedVertex) → CountUp k ps → AllByRecursion (λ (e : Edge). k ≤ e.reader) (flat_map edges_to ps)
later_readers k [] c = tt
later_readers k (p ∷ ps) c =
    let n = c.0 in
    all_append (λ (e : Edge). k ≤ e.reader) (edges_to p) (flat_map edges_to ps)
    (all_weaker (λ (e : Edge). e.reader ≡ p.vertex.number) (λ (e : Edge). k ≤ e.reader) (λ e h. omega (arith, h, n)) (edges_to p) (own_reader p.vertex.number 0 p.vertex.sources))
    (all_weaker (λ (e : Edge). k + 1 ≤ e.reader) (λ (e : Edge). k ≤ e.reader) (λ e h. omega (arith, h)) (flat_map edges_to ps) (later_readers (k + 1) ps c.1))

leading_to : (k d : ℕ) (ps : List PlacedVertex) (p : PlacedVertex) → CountUp k ps → slice_get ps d ≡ Some p → filter (λ e. e.reader == k + d) (flat_map edges_to ps) ≡ edges_to p
leading_to k d [] p c at = absurd (cc)
leading_to k zero (q ∷ ps) p c at =
    let n = c.0 in
    let test : Edge → Bool = λ e. e.reader == k + 0 in
    let same : q ≡ p = cc in
    filter-append test (edges_to q) (flat_map edges_to ps)
    ∙ (λ i. filter_all test (edges_to q) (all_weaker (λ (e : Edge). e.reader ≡ q.vertex.number) (λ e. test e ≡ true) (λ e h. eq-eqb e.reader (k + 0) (omega (arith, h, n))) (edges_to q) (own_reader q.vertex.number 0 q.vertex.sources)) i
    ++ filter_none test (flat_map edges_to ps) (all_weaker (λ (e : Edge). k + 1 ≤ e.reader) (λ e. test e ≡ false) (λ e h. ne_eqb e.reader (k + 0) (λ s. absurd (omega (arith, h, s)))) (flat_map edges_to ps) (later_readers (k + 1) ps c.1)) i)
    ∙ append-nil (edges_to q) ∙ ap edges_to same
leading_to k (suc d) (q ∷ ps) p c at =
    let n = c.0 in
    let test : Edge → Bool = λ e. e.reader == k + suc d in
    let next : k + suc d ≡ k + 1 + d = omega arith in
    filter-append test (edges_to q) (flat_map edges_to ps)
    ∙ ap (λ l. l ++ filter test (flat_map edges_to ps))
    (filter_none test (edges_to q) (all_weaker (λ (e : Edge). e.reader ≡ q.vertex.number) (λ e. test e ≡ false) (λ e h. ne_eqb e.reader (k + suc d) (λ s. absurd (omega (arith, h, n, s)))) (edges_to q) (own_reader q.vertex.number 0 q.vertex.sources)))
    ∙ ap (λ m. filter (λ (e : Edge). e.reader == m) (flat_map edges_to ps)) next ∙ leading_to (k + 1) d ps p c.1 at

pub edges_into : (plan : List Line) → IsPlan plan → (v : ℕ) (p : PlacedVertex) → slice_get (vertices plan) v ≡ Some p → filter (λ e. e.reader == v) (edges plan) ≡ edges_to p
edges_into plan lawful v p at =
    let counted : CountUp 0 (vertices plan) = subst (CountUp 0) (tree_vertices plan lawful) (count_placed (tree_of plan) [] 0 (tree_numbered plan lawful)) in
    let here : 0 + v ≡ v = omega arith in
    ap (λ m. filter (λ (e : Edge). e.reader == m) (edges plan)) (sym here) ∙ leading_to 0 v (vertices plan) p counted at
