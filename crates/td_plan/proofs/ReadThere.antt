-- Each source of a plan's vertices is read in the loops in which its reader reads: not only in loops of the same first numbers.
use Rattle.std.proofs.Common.{◌≡◌, ℕ, zero, suc, ◌+◌, Bool, true, false, List, [], ◌∷◌, ◌++◌, refl, sym, ap, ◌∙◌, subst}
use Rattle.std.specs.Prelude.{Option, Some, None, drop, not, ◌&&◌}
use Rattle.std.specs.List.{AllByRecursion, list_all, list_any, slice_get}
use Rattle.std.specs.Str.{bytes_eq}
use Rattle.std.proofs.lemmas.List.{append_assoc}
use Rattle.std.proofs.lemmas.List.Folds.{list_any-append}
use Rattle.std.proofs.lemmas.Slice.Eq.{bytes_eq-Decides}
use Rattle.td_plan.specs.declared.vertex.Kind.{Kind}
use Rattle.td_plan.specs.declared.vertex.Kind.TheVariants.{Enter, Feedback, Leave, Output}
use Rattle.td_plan.specs.declared.vertex.Loop.{Loop}
use Rattle.td_plan.specs.Lines.{Line}
use Rattle.td_plan.specs.Lines.Line.{vertex}
use Rattle.td_plan.specs.Blocks.{PlacedVertex, vertices, firsts, reading_loops, read_loops, reading_loops_at, read_loops_at, is_read_on, is_source_on}
use Rattle.td_plan.specs.Faults.{is_feedback, is_stray, is_stray_feedback, IsPlan}
use Rattle.td_plan.specs.LookedUp.{IsSourceAt}
use Rattle.td_plan.specs.Sources.{ReadEarlier}
use Rattle.td_plan.specs.Standing.{AreAlike}
use Rattle.td_plan.specs.Tree.{Nodes, size, tree_of, lines_of, placed_in}
use Rattle.td_plan.specs.Tree.Nodes.{done, node, block}
use Rattle.td_plan.proofs.Alike.{plan_alike}
use Rattle.td_plan.proofs.Looked.{vertex_found}
use Rattle.td_plan.proofs.Placed.{on_more, all_true, not_false}
use Rattle.td_plan.proofs.ReadOn.{all_append, all_weaker}
use Rattle.td_plan.proofs.Trees.{neither, tree_lines, tree_vertices, vertices_read}

-- what holds of all elements holds of that at a place
pub one_of : {X : Type 0} (P : X → Type 0) (xs : List X) → AllByRecursion P xs → (i : ℕ) (x : X) → slice_get xs i ≡ Some x → P x
one_of P [] h i x at = absurd (cc)
one_of P (y ∷ ys) h zero x at = let same : y ≡ x = cc in subst P same h.0
one_of P (y ∷ ys) h (suc i) x at = one_of P ys h.1 i x at

-- ON ITS BLOCK
-- a vertex reads on its block what is read on it
abbrev ReadsOn : List PlacedVertex → PlacedVertex → Type 0
ReadsOn all p = AllByRecursion (λ s. is_source_on (reading_loops p.vertex.kind p.loops) all s ≡ true) p.vertex.sources

earlier_read : (all before ps : List PlacedVertex) → before ++ ps ≡ all → ReadEarlier before ps → AllByRecursion (λ p. is_feedback p.vertex.kind ≡ false → ReadsOn all p) ps
earlier_read all before [] whole r = tt
earlier_read all before (p ∷ ps) whole r =
    let block : List Loop = reading_loops p.vertex.kind p.loops in (
      λ other. all_weaker (λ s. is_source_on block before s ≡ true) (λ s. is_source_on block all s ≡ true) (λ s on. subst (λ l. is_source_on block l s ≡ true) whole (on_more block before (p ∷ ps) s on)) p.vertex.sources
          (all_true (is_source_on block before) p.vertex.sources (r.0 other)),
      earlier_read all (before ++ p ∷ []) ps (append_assoc before (p ∷ []) ps ∙ whole) r.1,
    )

none_stray : (plan : List Line) (nodes : Nodes) (ls : List Loop) (n : ℕ) → list_any (is_stray plan) (lines_of nodes) ≡ false → AllByRecursion (λ p. is_stray plan (vertex p.vertex) ≡ false) (placed_in ls n nodes)
none_stray plan done ls n h = tt
none_stray plan (node v rest) ls n h = let k = neither (is_stray plan (vertex v)) (list_any (is_stray plan) (lines_of rest)) h in (k.0, none_stray plan rest ls (n + 1) k.1)
none_stray plan (block b body rest) ls n h =
    let inner : List Loop = record { first = n; bound = b } ∷ ls in
    let k = neither (list_any (is_stray plan) (lines_of body)) (list_any (is_stray plan) (lines_of rest)) (sym (list_any-append (is_stray plan) (lines_of body) (Line.end ∷ lines_of rest)) ∙ h) in
    all_append (λ p. is_stray plan (vertex p.vertex) ≡ false) (placed_in inner n body) (placed_in ls (n + size body) rest) (none_stray plan body inner n k.0) (none_stray plan rest ls (n + size body) k.1)

module _ (plan : List Line) (lawful : IsPlan plan) where
  reads_on : (v : ℕ) (p : PlacedVertex) → slice_get (vertices plan) v ≡ Some p → ReadsOn (vertices plan) p
  reads_on v p at = by (is_feedback p.vertex.kind) refl
    where
      straight : is_stray plan (vertex p.vertex) ≡ false
      straight = one_of (λ q. is_stray plan (vertex q.vertex) ≡ false) (vertices plan)
          (subst (AllByRecursion (λ q. is_stray plan (vertex q.vertex) ≡ false)) (tree_vertices plan lawful) (none_stray plan (tree_of plan) [] 0 (ap (list_any (is_stray plan)) (tree_lines plan lawful) ∙ lawful.none_stray))) v p at

      here : slice_get (vertices plan) p.vertex.number ≡ Some p
      here = ap (slice_get (vertices plan)) (vertex_found plan v p lawful at).number ∙ at

      of_feedback : (kind : Kind) (all : Bool) → is_feedback kind ≡ true → (is_feedback kind && (is_feedback kind && not all)) ≡ false → all ≡ true
      of_feedback kind all e h = not_false all (sym (ap (λ b. b && (b && not all)) e) ∙ h)

      reading_feedback : (kind : Kind) → is_feedback kind ≡ true → reading_loops kind p.loops ≡ p.loops
      reading_feedback Feedback e = refl
      reading_feedback Enter e = absurd (cc)
      reading_feedback _ e = refl

      by : (b : Bool) → is_feedback p.vertex.kind ≡ b → AllByRecursion (λ s. is_source_on (reading_loops p.vertex.kind p.loops) (vertices plan) s ≡ true) p.vertex.sources
      by false e = one_of (λ q. is_feedback q.vertex.kind ≡ false → ReadsOn (vertices plan) q) (vertices plan) (earlier_read (vertices plan) [] (vertices plan) refl (vertices_read plan lawful)) v p at e
      by true e =
          let all : list_all (is_source_on p.loops (vertices plan)) p.vertex.sources ≡ true = of_feedback p.vertex.kind (list_all (is_source_on p.loops (vertices plan)) p.vertex.sources) e
          (sym (ap (λ o. is_feedback p.vertex.kind && elim o [ None ↦ false | Some q ↦ is_stray_feedback (vertices plan) q ]) here) ∙ straight) in
          subst (λ block. AllByRecursion (λ s. is_source_on block (vertices plan) s ≡ true) p.vertex.sources) (sym (reading_feedback p.vertex.kind e)) (all_true (is_source_on p.loops (vertices plan)) p.vertex.sources all)

-- IN ITS LOOPS: where one reads, where its source is read, by the same first numbers
same_block : (kp kq : Kind) (p q there : List Loop) → AreAlike p q → read_loops kp p ≡ Some there → firsts there ≡ firsts (reading_loops kq q) → there ≡ reading_loops kq q
same_block Output kq p q there alike is same = absurd (cc)
same_block Leave kq p q there alike is same = let home : drop 1 p ≡ there = cc in sym home ∙ by kq (ap firsts home ∙ same)
  where
    by : (kq : Kind) → firsts (drop 1 p) ≡ firsts (reading_loops kq q) → drop 1 p ≡ reading_loops kq q
    by Enter e = alike 1 1 e
    by _ e = alike 1 0 e
same_block _ kq p q there alike is same = let home : p ≡ there = cc in sym home ∙ by kq (ap firsts home ∙ same)
  where
    by : (kq : Kind) → firsts p ≡ firsts (reading_loops kq q) → p ≡ reading_loops kq q
    by Enter e = alike 0 1 e
    by _ e = alike 0 0 e

module _ (plan : List Line) (lawful : IsPlan plan) (reader port source : ℕ) where
  of_source : (q : PlacedVertex) → slice_get (vertices plan) reader ≡ Some q → (o : Option PlacedVertex) → slice_get (vertices plan) source ≡ o
      → elim o [ None ↦ false | Some p ↦ is_read_on (reading_loops q.vertex.kind q.loops) p ] ≡ true → read_loops_at plan source ≡ Some (reading_loops q.vertex.kind q.loops)
  of_source q at None from on = absurd (cc)
  of_source q at (Some p) from on = (vertex_found plan source p lawful from).read_on ∙ by (read_loops p.vertex.kind p.loops) refl on
    where
      by : (o : Option (List Loop)) → read_loops p.vertex.kind p.loops ≡ o → elim o [ None ↦ false | Some ls ↦ bytes_eq (firsts ls) (firsts (reading_loops q.vertex.kind q.loops)) ] ≡ true → o ≡ Some (reading_loops q.vertex.kind q.loops)
      by None e on = absurd (cc)
      by (Some there) e on =
          ap Some (same_block p.vertex.kind q.vertex.kind p.loops q.loops there (plan_alike plan source reader p q from at) e ((bytes_eq-Decides (firsts there) (firsts (reading_loops q.vertex.kind q.loops))).0 on))

  of_reader : (o : Option PlacedVertex) → slice_get (vertices plan) reader ≡ o → slice_get (elim o [ None ↦ [] | Some q ↦ q.vertex.sources ]) port ≡ Some source → read_loops_at plan source ≡ Some (reading_loops_at plan reader)
  of_reader None at found = absurd (cc)
  of_reader (Some q) at found =
      let on : is_source_on (reading_loops q.vertex.kind q.loops) (vertices plan) source ≡ true =
      one_of (λ s. is_source_on (reading_loops q.vertex.kind q.loops) (vertices plan) s ≡ true) q.vertex.sources (reads_on plan lawful reader q at) port source found in
      of_source q at (slice_get (vertices plan) source) refl on ∙ ap Some (sym (vertex_found plan reader q lawful at).reads_on)

  pub read_there : IsSourceAt plan reader port source → read_loops_at plan source ≡ Some (reading_loops_at plan reader)
  read_there found = of_reader (slice_get (vertices plan) reader) refl found
