-- The edges that lead to a vertex, one by one.
use Rattle.std.proofs.Common.{◌≡◌, ℕ, ◌+◌, ◌<◌, ◌≤◌, List, [], ◌∷◌, ◌++◌, length, take, map, get_or, sym, ap, ◌∙◌, arith}
use Rattle.std.specs.List.{enumerate_from}
use Rattle.std.proofs.lemmas.List.{append_assoc, map-append, take_more, take_all, length-take-le}
use Rattle.td_plan.specs.declared.vertex.Edge.{Edge}

-- a source by its port, as an edge
abbrev pub edge_from : ℕ → (ℕ × ℕ) → Edge
edge_from reader s = record { source = s.1; reader = reader; port = s.0 }

enumerate_append : (n : ℕ) (xs ys : List ℕ) → enumerate_from n (xs ++ ys) ≡ enumerate_from n xs ++ enumerate_from (n + length xs) ys
enumerate_append n [] ys = ap (λ k. enumerate_from k ys) (let z : n ≡ n + 0 = omega arith in z)
enumerate_append n (x ∷ xs) ys = ap (λ r. (n, x) ∷ r) (enumerate_append (n + 1) xs ys ∙ ap (λ k. enumerate_from (n + 1) xs ++ enumerate_from k ys) (let z : n + 1 + length xs ≡ n + length (x ∷ xs) = omega arith in z))

pub edges_more : (reader : ℕ) (xs : List ℕ) (i : ℕ) → i < length xs
    → map (edge_from reader) (enumerate_from 0 (take (i + 1) xs)) ≡ map (edge_from reader) (enumerate_from 0 (take i xs)) ++ record { source = get_or xs i 0; reader = reader; port = i } ∷ []
edges_more reader xs i h =
    let count : length (take i xs) ≡ i = length-take-le i xs (omega arith) in
    let port : 0 + length (take i xs) ≡ i = omega (arith, count) in
    ap (λ s. map (edge_from reader) (enumerate_from 0 s)) (take_more xs i 0 h)
    ∙ ap (map (edge_from reader)) (enumerate_append 0 (take i xs) (get_or xs i 0 ∷ []))
    ∙ map-append (edge_from reader) (enumerate_from 0 (take i xs)) (enumerate_from (0 + length (take i xs)) (get_or xs i 0 ∷ []))
    ∙ ap (λ k. map (edge_from reader) (enumerate_from 0 (take i xs)) ++ record { source = get_or xs i 0; reader = reader; port = k } ∷ []) port

pub edges_after : (before so_far now : List Edge) (reader : ℕ) (xs : List ℕ) (i port : ℕ) → i < length xs → port ≡ i → so_far ≡ before ++ map (edge_from reader) (enumerate_from 0 (take i xs))
    → now ≡ so_far ++ record { source = get_or xs i 0; reader = reader; port = port } ∷ [] → now ≡ before ++ map (edge_from reader) (enumerate_from 0 (take (i + 1) xs))
edges_after before so_far now reader xs i port h p e f =
    f ∙ (λ j. e j ++ record { source = get_or xs i 0; reader = reader; port = p j } ∷ []) ∙ append_assoc before (map (edge_from reader) (enumerate_from 0 (take i xs))) (record { source = get_or xs i 0; reader = reader; port = i } ∷ [])
    ∙ ap (λ r. before ++ r) (sym (edges_more reader xs i h))

pub edges_all : (before now : List Edge) (reader : ℕ) (xs : List ℕ) (i : ℕ) → length xs ≤ i → now ≡ before ++ map (edge_from reader) (enumerate_from 0 (take i xs)) → now ≡ before ++ map (edge_from reader) (enumerate_from 0 xs)
edges_all before now reader xs i le e = e ∙ ap (λ s. before ++ map (edge_from reader) (enumerate_from 0 s)) (take_all i xs le)
