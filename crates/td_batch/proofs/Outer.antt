-- The tree of a plan, whose closures are stored, is one that the evaluator can walk.
use Rattle.std.proofs.Common.{◌≡◌, ℕ, ◌+◌, ◌<◌, ◌≤◌, ◌==◌, Bool, true, false, Option, Some, None, List, [], ◌∷◌, ◌++◌, refl, arith}
use Rattle.std.specs.List.{AllByRecursion, list_any}
use Rattle.td_plan.specs.declared.vertex.Loop.{Loop}
use Rattle.td_plan.specs.declared.vertex.Kind.{Kind}
use Rattle.td_plan.specs.declared.vertex.Kind.TheVariants.{Input, Enter, Feedback, Leave}
use Rattle.td_plan.specs.Lines.{Vertex}
use Rattle.td_plan.specs.Blocks.{PlacedVertex}
use Rattle.td_plan.specs.Faults.{is_input}
use Rattle.td_plan.specs.Tree.{Nodes, size, placed_in}
use Rattle.td_plan.specs.Tree.Nodes.{done, node, block}
use Rattle.td_plan.specs.Placed.{leave_of, leaves_of, read_of, read_in, readable, IsWellPlaced, IsPlacedTree}
use Rattle.td_plan.specs.Standing.{may_stand, StandsWell}
use Rattle.td_calls.specs.declared.error.CallsError.{CallsError}
use Rattle.td_calls.specs.declared.error.CallsError.TheVariants.{NoCall}
use Rattle.td_calls.specs.Fits.{lacking_code, first_lack}
use Rattle.td_calls.specs.Stored.{Codes}
use Rattle.td_batch.specs.Quiet.{HasNoInputs, IsLoopBody}
use Rattle.td_batch.specs.Steps.Epoch.{IsInner, IsOuter}
use Rattle.td_batch.proofs.Lists.{AreAmong, pick, all_append, all_map}

-- numbers below one
abbrev AreBelow : ℕ → List ℕ → Type 0
AreBelow n xs = AllByRecursion (λ s. s < n) xs

below_more : (n m : ℕ) (xs : List ℕ) → n ≤ m → AreBelow n xs → AreBelow m xs
below_more n m xs h a = all_map (λ s. s < n) (λ s. s < m) (λ s l. omega arith) xs a

both_below : (n m : ℕ) (xs ys : List ℕ) → n ≤ m → AreBelow n xs → AreBelow m ys → AreBelow m (xs ++ ys)
both_below n m xs ys h a b = all_append (λ s. s < m) xs ys (below_more n m xs h a) b

among_below : (n : ℕ) (xs sources : List ℕ) → AreBelow n xs → AreAmong xs sources → AreBelow n sources
among_below n xs sources a found = all_map (λ s. list_any (λ x. x == s) xs ≡ true) (λ s. s < n) (λ s f. pick (λ s. s < n) xs s a f) sources found

-- what is read of a vertex, and of a loop, is below the next number
leave_below : (n : ℕ) (v : Vertex) (kind : Kind) → v.number ≡ n → AreBelow (n + 1) (leave_of v kind)
leave_below n v Leave e = (omega arith, tt)
leave_below n v _ e = tt

read_below : (n : ℕ) (v : Vertex) (kind : Kind) → v.number ≡ n → AreBelow (n + 1) (read_of v kind)
read_below n v Leave e = tt
read_below n v _ e = (omega arith, tt)

leaves_below : (nodes : Nodes) (all outer own : List ℕ) (n high : ℕ) → n + size nodes ≤ high → IsWellPlaced all outer own n nodes → AreBelow high (leaves_of nodes)
leaves_below done all outer own n high h p = tt
leaves_below (node v rest) all outer own n high h p =
    both_below (n + 1) high (leave_of v v.kind) (leaves_of rest) (omega arith) (leave_below n v v.kind p.0)
    (leaves_below rest all outer (own ++ read_of v v.kind) (n + 1) high (omega arith) p.2)
leaves_below (block bound body rest) all outer own n high h p = leaves_below rest all outer (own ++ leaves_of body) (n + size body) high (omega arith) p.1

-- the vertices that lack no closure
module _ (stored : Codes) where
  first_fits : (p : PlacedVertex) (ps : List PlacedVertex) → first_lack stored (p ∷ ps) ≡ None
      → (lacking_code stored p.vertex.kind ≡ None) × (first_lack stored ps ≡ None)
  first_fits p ps e = by (lacking_code stored p.vertex.kind) refl e
    where
      by : (o : Option ℕ) → lacking_code stored p.vertex.kind ≡ o
          → ◌≡◌ {A = Option CallsError} (elim o [ None ↦ first_lack stored ps | Some code ↦ Some (NoCall p.vertex.number code) ]) None
          → (lacking_code stored p.vertex.kind ≡ None) × (first_lack stored ps ≡ None)
      by None f e = (f, e)
      by (Some code) f e = absurd (cc)

  both_fit : (ps qs : List PlacedVertex) → first_lack stored (ps ++ qs) ≡ None → (first_lack stored ps ≡ None) × (first_lack stored qs ≡ None)
  both_fit [] qs e = (refl, e)
  both_fit (p ∷ ps) qs e = by (lacking_code stored p.vertex.kind) (both_fit ps qs) e
    where
      by : (o : Option ℕ)
          → (first_lack stored (ps ++ qs) ≡ None → (first_lack stored ps ≡ None) × (first_lack stored qs ≡ None))
          → ◌≡◌ {A = Option CallsError} (elim o [ None ↦ first_lack stored (ps ++ qs) | Some code ↦ Some (NoCall p.vertex.number code) ]) None
          → (◌≡◌ {A = Option CallsError} (elim o [ None ↦ first_lack stored ps | Some code ↦ Some (NoCall p.vertex.number code) ]) None)
          × (first_lack stored qs ≡ None)
      by None rest e = rest e
      by (Some code) rest e = absurd (cc)

-- no input stands in a loop
not_input : (kind : Kind) → may_stand true kind ≡ true → is_input kind ≡ false
not_input Input e = absurd (cc)
not_input _ e = refl

no_inputs : (nodes : Nodes) → StandsWell true nodes → HasNoInputs nodes
no_inputs done s = tt
no_inputs (node v rest) s = (not_input v.kind s.0, no_inputs rest s.1)
no_inputs (block bound body rest) s = (no_inputs body s.2, no_inputs rest s.3)

-- outside loops each source comes before its reader
sources_below : (kind : Kind) (all own sources : List ℕ) (n : ℕ) → may_stand false kind ≡ true → AreBelow n own → AreAmong (readable all [] own kind) sources → AreBelow n sources
sources_below Enter all own sources n e w r = absurd (cc)
sources_below Feedback all own sources n e w r = absurd (cc)
sources_below _ all own sources n e w r = among_below n own sources w r

loop_body : (own : List ℕ) (n : ℕ) (body : Nodes) → AreBelow n own → IsWellPlaced (read_in body) own [] n body → StandsWell true body → IsLoopBody own n body
loop_body own n body w p s = (w, p, no_inputs body s)

-- what is read before the next part of a block
past_vertex : (own : List ℕ) (n : ℕ) (v : Vertex) → AreBelow n own → v.number ≡ n → AreBelow (n + 1) (own ++ read_of v v.kind)
past_vertex own n v w e = both_below n (n + 1) own (read_of v v.kind) (omega arith) w (read_below n v v.kind e)

past_loop : (own : List ℕ) (n : ℕ) (body : Nodes) → AreBelow n own → IsWellPlaced (read_in body) own [] n body → AreBelow (n + size body) (own ++ leaves_of body)
past_loop own n body w p = both_below n (n + size body) own (leaves_of body) (omega arith) w (leaves_below body (read_in body) own [] n (n + size body) (omega arith) p)

module _ (stored : Codes) where
  inner_is : (nodes : Nodes) (loops : List Loop) (all outer own : List ℕ) (n : ℕ) → IsWellPlaced all outer own n nodes → StandsWell true nodes → AreBelow n own
      → first_lack stored (placed_in loops n nodes) ≡ None → IsInner stored n nodes
  inner_is done loops all outer own n p s w fits = tt
  inner_is (node v rest) loops all outer own n p s w fits =
      let parts = first_fits stored (record { vertex = v; loops = loops }) (placed_in loops (n + 1) rest) fits in
      ((p.0, parts.0), inner_is rest loops all outer (own ++ read_of v v.kind) (n + 1) p.2 s.1 (past_vertex own n v w p.0) parts.1)
  inner_is (block bound body rest) loops all outer own n p s w fits =
      let within : List Loop = record { first = n; bound = bound } ∷ loops in
      let parts = both_fit stored (placed_in within n body) (placed_in loops (n + size body) rest) fits in (
        s.0,
        (own, loop_body own n body w p.0 s.2),
        inner_is body within (read_in body) own [] n p.0 s.2 tt parts.0,
        inner_is rest loops all outer (own ++ leaves_of body) (n + size body) p.1 s.3 (past_loop own n body w p.0) parts.1,
      )

  outer_is : (nodes : Nodes) (all own : List ℕ) (n : ℕ) → IsWellPlaced all [] own n nodes → StandsWell false nodes → AreBelow n own
      → first_lack stored (placed_in [] n nodes) ≡ None → IsOuter stored n nodes
  outer_is done all own n p s w fits = tt
  outer_is (node v rest) all own n p s w fits =
      let parts = first_fits stored (record { vertex = v; loops = [] }) (placed_in [] (n + 1) rest) fits in (
        (p.0, parts.0),
        sources_below v.kind all own v.sources n s.0 w p.1,
        outer_is rest all (own ++ read_of v v.kind) (n + 1) p.2 s.1 (past_vertex own n v w p.0) parts.1,
      )
  outer_is (block bound body rest) all own n p s w fits =
      let within : List Loop = record { first = n; bound = bound } ∷ [] in
      let parts = both_fit stored (placed_in within n body) (placed_in [] (n + size body) rest) fits in (
        s.0,
        (own, loop_body own n body w p.0 s.2),
        inner_is body within (read_in body) own [] n p.0 s.2 tt parts.0,
        outer_is rest all (own ++ leaves_of body) (n + size body) p.1 s.3 (past_loop own n body w p.0) parts.1,
      )

-- a tree whose sources are read where their readers read, whose vertices stand where their kinds may, and whose closures are stored
pub tree_is_outer : (stored : Codes) (nodes : Nodes) → IsPlacedTree nodes → StandsWell false nodes → first_lack stored (placed_in [] 0 nodes) ≡ None
    → IsOuter stored 0 nodes
tree_is_outer stored nodes placed stands fits = outer_is stored nodes (read_in nodes) [] 0 placed stands tt fits
