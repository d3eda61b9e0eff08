-- Where the kinds of a plan stand, by number, and where the vertices of its tree are found.
use Rattle.std.proofs.Common.{◌≡◌, ℕ, suc, ◌+◌, true, List, [], ◌∷◌, ◌++◌, refl, sym, ap, ◌∙◌, subst}
use Rattle.std.specs.Prelude.{Some}
use Rattle.std.specs.List.{AllByRecursion, slice_get}
use Rattle.td_plan.specs.declared.vertex.Kind.{Kind}
use Rattle.td_plan.specs.declared.vertex.Kind.TheVariants.{Enter}
use Rattle.td_plan.specs.declared.vertex.Loop.{Loop}
use Rattle.td_plan.specs.Lines.{Line}
use Rattle.td_plan.specs.Blocks.{PlacedVertex, vertices, bounds, edges_to, reading_loops}
use Rattle.td_plan.specs.Faults.{is_in_loop, IsPlan}
use Rattle.td_plan.specs.Laid.{read_bounds, IsLaid, AreLaid}
use Rattle.td_plan.specs.Standing.{may_stand, IsBounded, StandsWell}
use Rattle.td_plan.specs.Tree.{Nodes, size, tree_of, placed_in}
use Rattle.td_plan.specs.Tree.Nodes.{done, node, block}
use Rattle.td_plan.proofs.EdgesTo.{edges_into}
use Rattle.td_plan.proofs.Looked.{vertex_found}
use Rattle.td_plan.proofs.ReadOn.{all_append}
use Rattle.td_plan.proofs.ReadThere.{one_of}
use Rattle.td_plan.proofs.StandsWell.{tree_stands}
use Rattle.td_plan.proofs.Trees.{tree_vertices}

-- BY NUMBER
abbrev StandsAt : PlacedVertex → Type 0
StandsAt p = (may_stand (is_in_loop p.loops) p.vertex.kind ≡ true) × AllByRecursion IsBounded p.loops

all_stand : (nodes : Nodes) (ls : List Loop) (n : ℕ) → StandsWell (is_in_loop ls) nodes → AllByRecursion IsBounded ls → AllByRecursion StandsAt (placed_in ls n nodes)
all_stand done ls n s b = tt
all_stand (node v rest) ls n s b = ((s.0, b), all_stand rest ls (n + 1) s.1 b)
all_stand (block bound body rest) ls n s b =
    let inner : List Loop = record { first = n; bound = bound } ∷ ls in
    all_append StandsAt (placed_in inner n body) (placed_in ls (n + size body) rest) (all_stand body inner n s.2 ((s.0, s.1), b)) (all_stand rest ls (n + size body) s.3 b)

module _ (plan : List Line) (lawful : IsPlan plan) where
  pub stands_at : (v : ℕ) (p : PlacedVertex) → slice_get (vertices plan) v ≡ Some p → (may_stand (is_in_loop p.loops) p.vertex.kind ≡ true) × AllByRecursion IsBounded p.loops
  stands_at v p at = one_of StandsAt (vertices plan) (subst (AllByRecursion StandsAt) (tree_vertices plan lawful) (all_stand (tree_of plan) [] 0 (tree_stands plan lawful) tt)) v p at

-- ALONG THE TREE
bounds_read : (kind : Kind) (loops : List Loop) → bounds (reading_loops kind loops) ≡ read_bounds kind (bounds loops)
bounds_read Enter [] = refl
bounds_read Enter (l ∷ loops) = refl
bounds_read _ loops = refl

all_at : {X : Type 0} (P : X → Type 0) (xs : List X) → ((i : ℕ) (x : X) → slice_get xs i ≡ Some x → P x) → AllByRecursion P xs
all_at P [] h = tt
all_at P (x ∷ xs) h = (h 0 x refl, all_at P xs (λ i y at. h (suc i) y at))

all_apart : {X : Type 0} (P : X → Type 0) (xs ys : List X) → AllByRecursion P (xs ++ ys) → AllByRecursion P xs × AllByRecursion P ys
all_apart P [] ys h = (tt, h)
all_apart P (x ∷ xs) ys h = let r = all_apart P xs ys h.1 in ((h.0, r.0), r.1)

module _ (plan : List Line) (lawful : IsPlan plan) where
  abbrev LaidAt : PlacedVertex → Type 0
  LaidAt p = IsLaid plan (bounds p.loops) p.vertex

  laid_at : (v : ℕ) (p : PlacedVertex) → slice_get (vertices plan) v ≡ Some p → LaidAt p
  laid_at v p at =
      let here : slice_get (vertices plan) p.vertex.number ≡ Some p = ap (slice_get (vertices plan)) (vertex_found plan v p lawful at).number ∙ at in
      let found = vertex_found plan p.vertex.number p lawful here in
      record {
        kind = found.kind;
        stands = ap bounds found.loops;
        reads = ap bounds found.reads_on ∙ bounds_read p.vertex.kind p.loops;
        into = edges_into plan lawful p.vertex.number p here ∙ ap (λ ls. edges_to (record { vertex = p.vertex; loops = ls })) (sym found.loops);
      }

  laid_nodes : (nodes : Nodes) (ls : List Loop) (n : ℕ) → AllByRecursion LaidAt (placed_in ls n nodes) → AreLaid plan (bounds ls) nodes
  laid_nodes done ls n h = tt
  laid_nodes (node v rest) ls n h = (h.0, laid_nodes rest ls (n + 1) h.1)
  laid_nodes (block bound body rest) ls n h =
      let inner : List Loop = record { first = n; bound = bound } ∷ ls in
      let parts = all_apart LaidAt (placed_in inner n body) (placed_in ls (n + size body) rest) h in
      (laid_nodes body inner n parts.0, laid_nodes rest ls (n + size body) parts.1)

  pub plan_laid : AreLaid plan [] (tree_of plan)
  plan_laid = laid_nodes (tree_of plan) [] 0 (subst (AllByRecursion LaidAt) (sym (tree_vertices plan lawful)) (all_at LaidAt (vertices plan) laid_at))
