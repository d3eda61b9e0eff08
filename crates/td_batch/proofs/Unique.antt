-- Two flows that solve the flat equations of a plan agree wherever its vertices read.
use Rattle.std.proofs.Common.{◌≡◌, ℕ, zero, suc, ◌+◌, ◌<◌, ◌==◌, arith, true, List, [], ◌∷◌, ◌++◌, map, length, Option, None, refl, ap, sym, ◌∙◌, subst, append_assoc, length-append}
use Rattle.std.specs.Prelude.{drop}
use Rattle.std.specs.List.{AllByRecursion, list_any}
use Rattle.td_plan.specs.declared.vertex.Kind.{Kind}
use Rattle.td_plan.specs.declared.vertex.Kind.TheVariants.{Enter, Feedback}
use Rattle.td_plan.specs.Laid.{read_bounds}
use Rattle.td_plan.specs.Lines.{Vertex}
use Rattle.td_plan.specs.Tree.{Nodes, size}
use Rattle.td_plan.specs.Tree.Nodes.{done, node, block}
use Rattle.td_plan.specs.Placed.{leaves_of, read_of, read_in, readable, IsWellPlaced, IsPlacedTree}
use Rattle.td_batch.specs.Meaning.{EpochInput, Bags, emission, turn}
use Rattle.td_batch.specs.BagAt.{before_turn}
use Rattle.td_batch.specs.Flow.{Flow, AreBelow, Solves}
use Rattle.td_batch.specs.SameFlow.{ReadAlike}
use Rattle.td_batch.proofs.Lists.{AreAmong, pick, all_append, all_left, all_map, map_alike}
use Rattle.td_batch.proofs.Flows.{EndsAs, AllEndAs, IsFlow, solution_is_flow}
use Rattle.td_batch.proofs.Turns.{loop_bags, length-loop_bags, ends_more}
use Rattle.td_batch.proofs.Solutions.{Begins, begins_more, ends_read, turn_ends}

-- ONE FLOW, turn by turn
module _ (epoch : EpochInput) (flow : Flow) where
  own_more : (all outer own : List ℕ) (before : Option Bags) (counters : List ℕ) (bags : Bags) (v : Vertex) (rest : Nodes) → IsWellPlaced all outer own (length bags) (node v rest) → IsFlow epoch flow (node v rest) counters
      → Begins epoch flow all outer before counters bags → AllEndAs flow counters bags own → AllEndAs flow counters (bags ++ emission epoch before bags v ∷ []) (own ++ read_of v v.kind)
  own_more all outer own before counters bags v rest placed flows begins o =
      let last : Bags = bags ++ emission epoch before bags v ∷ [] in
      all_append (EndsAs flow counters last) own (read_of v v.kind) (ends_more flow counters bags (emission epoch before bags v ∷ []) own o)
      (all_left (EndsAs flow counters last) (read_of v v.kind) [] (ends_read epoch flow (node v done) counters last (turn_ends epoch flow (node v done) all outer own before counters bags (placed.0, placed.1, tt) (flows.0, tt) begins o) (flows.0, tt)))

  own_after : (all outer own : List ℕ) (before : Option Bags) (counters : List ℕ) (bags : Bags) (bound : ℕ) (body rest : Nodes) → IsWellPlaced all outer own (length bags) (block bound body rest) → IsFlow epoch flow (block bound body rest) counters
      → Begins epoch flow all outer before counters bags → AllEndAs flow counters bags own → AllEndAs flow counters (bags ++ loop_bags epoch bound body bags) (own ++ leaves_of body)
  own_after all outer own before counters bags bound body rest placed flows begins o =
      let last : Bags = bags ++ loop_bags epoch bound body bags in
      all_append (EndsAs flow counters last) own (leaves_of body) (ends_more flow counters bags (loop_bags epoch bound body bags) own o)
      (all_left (EndsAs flow counters last) (leaves_of body) [] (ends_read epoch flow (block bound body done) counters last (turn_ends epoch flow (block bound body done) all outer own before counters bags (placed.0, tt) (flows.0, flows.1, tt) begins o) (flows.0, flows.1, tt)))

  -- the turns of a loop
  module _ (own counters : List ℕ) (bags : Bags) (bound : ℕ) (body : Nodes) (placed : IsWellPlaced (read_in body) own [] (length bags) body) (flows : (k : ℕ) → k < bound → IsFlow epoch flow body (k ∷ counters)) (o : AllEndAs flow counters bags own) where
    abbrev before_at : ℕ → Option Bags
    before_at k = before_turn (λ earlier. turn epoch body earlier bags) k

    ends_at : (k : ℕ) → k < bound → Begins epoch flow (read_in body) own (before_at k) (k ∷ counters) bags → AllEndAs flow (k ∷ counters) (turn epoch body (before_at k) bags) (read_in body)
    ends_at k l b = ends_read epoch flow body (k ∷ counters) (turn epoch body (before_at k) bags) (turn_ends epoch flow body (read_in body) own [] (before_at k) (k ∷ counters) bags placed (flows k l) b tt) (flows k l)

    starts : (k : ℕ) → k < bound → Begins epoch flow (read_in body) own (before_at k) (k ∷ counters) bags
    starts zero l = o
    starts (suc k) l = let m : k < bound = omega (arith, l) in ends_at k m (starts k m)

    turn_at : (k : ℕ) → k < bound → AllEndAs flow (k ∷ counters) (turn epoch body (before_at k) bags) (read_in body)
    turn_at k l = ends_at k l (starts k l)

-- TWO FLOWS
module _ (epoch : EpochInput) (f g : Flow) where
  abbrev Agree : List ℕ → List ℕ → Type 0
  Agree xs counters = AllByRecursion (λ s. f s counters ≡ g s counters) xs

  both_ends : (counters : List ℕ) (last : Bags) (xs : List ℕ) → AllEndAs f counters last xs → AllEndAs g counters last xs → Agree xs counters
  both_ends counters last [] a b = tt
  both_ends counters last (x ∷ xs) a b = (sym a.0.1 ∙ b.0.1, both_ends counters last xs a.1 b.1)

  -- in each turn of each loop
  abbrev Inner : Nodes → List ℕ → Type 0
  Inner done counters = Unit {0}
  Inner (node v rest) counters = Inner rest counters
  Inner (block bound body rest) counters = ((k : ℕ) → k < bound → Agree (read_in body) (k ∷ counters) × Inner body (k ∷ counters)) × Inner rest counters

  inner : (nodes : Nodes) (all outer own : List ℕ) (before : Option Bags) (counters : List ℕ) (bags : Bags) → IsWellPlaced all outer own (length bags) nodes → IsFlow epoch f nodes counters → IsFlow epoch g nodes counters
      → Begins epoch f all outer before counters bags → Begins epoch g all outer before counters bags → AllEndAs f counters bags own → AllEndAs g counters bags own → Inner nodes counters
  inner done all outer own before counters bags placed ff gf fb gb fo go = tt
  inner (node v rest) all outer own before counters bags placed ff gf fb gb fo go =
      let more : Bags = emission epoch before bags v ∷ [] in
      inner rest all outer (own ++ read_of v v.kind) before counters (bags ++ more) (subst (λ m. IsWellPlaced all outer (own ++ read_of v v.kind) m rest) (sym (length-append bags more)) placed.2) ff.1 gf.1
      (begins_more epoch f all outer before counters bags more fb) (begins_more epoch g all outer before counters bags more gb)
      (own_more epoch f all outer own before counters bags v rest placed ff fb fo) (own_more epoch g all outer own before counters bags v rest placed gf gb go)
  inner (block bound body rest) all outer own before counters bags placed ff gf fb gb fo go =
      let more : Bags = loop_bags epoch bound body bags in
      let long : length (bags ++ more) ≡ length bags + size body = length-append bags more ∙ ap (λ m. length bags + m) (length-loop_bags epoch bound body bags) in (
        (λ k l. (
          both_ends (k ∷ counters) (turn epoch body (before_turn (λ earlier. turn epoch body earlier bags) k) bags) (read_in body)
              (turn_at epoch f own counters bags bound body placed.0 ff.0 fo k l) (turn_at epoch g own counters bags bound body placed.0 gf.0 go k l),
          inner body (read_in body) own [] (before_turn (λ earlier. turn epoch body earlier bags) k) (k ∷ counters) bags placed.0 (ff.0 k l) (gf.0 k l)
              (starts epoch f own counters bags bound body placed.0 ff.0 fo k l) (starts epoch g own counters bags bound body placed.0 gf.0 go k l) tt tt,
        )),
        inner rest all outer (own ++ leaves_of body) before counters (bags ++ more) (subst (λ m. IsWellPlaced all outer (own ++ leaves_of body) m rest) (sym long) placed.1) ff.2 gf.2
            (begins_more epoch f all outer before counters bags more fb) (begins_more epoch g all outer before counters bags more gb)
            (own_after epoch f all outer own before counters bags bound body rest placed ff fb fo) (own_after epoch g all outer own before counters bags bound body rest placed gf gb go),
      )

  among : (xs counters : List ℕ) (sources : List ℕ) → Agree xs counters → AreAmong xs sources → map (λ s. f s counters) sources ≡ map (λ s. g s counters) sources
  among xs counters sources a found = map_alike (λ s. f s counters) (λ s. g s counters) sources (all_map (λ s. list_any (λ x. x == s) xs ≡ true) (λ s. f s counters ≡ g s counters) (λ s h. pick (λ s. f s counters ≡ g s counters) xs s a h) sources found)

  -- what each vertex reads in each of its turns
  reads_one : (v : Vertex) (kind : Kind) (all outer own bounds : List ℕ) → AreAmong (readable all outer own kind) v.sources
      → ((c : List ℕ) → AreBelow c bounds → Agree all c) → ((c : List ℕ) → AreBelow c (drop 1 bounds) → Agree outer c) → ((c : List ℕ) → AreBelow c bounds → Agree own c)
      → (c : List ℕ) → AreBelow c (read_bounds kind bounds) → map (λ s. f s c) v.sources ≡ map (λ s. g s c) v.sources
  reads_one v Enter all outer own bounds found a b o c h = among outer c v.sources (b c h) found
  reads_one v Feedback all outer own bounds found a b o c h = among all c v.sources (a c h) found
  reads_one v _ all outer own bounds found a b o c h = among own c v.sources (o c h) found

  reads_same : (nodes : Nodes) (all outer own bounds : List ℕ) (n : ℕ) → IsWellPlaced all outer own n nodes
      → ((c : List ℕ) → AreBelow c bounds → Agree all c) → ((c : List ℕ) → AreBelow c (drop 1 bounds) → Agree outer c) → ((c : List ℕ) → AreBelow c bounds → Agree (own ++ read_in nodes) c)
      → ((c : List ℕ) → AreBelow c bounds → Inner nodes c) → ReadAlike f g bounds nodes
  reads_same done all outer own bounds n placed a b o i = tt
  reads_same (node v rest) all outer own bounds n placed a b o i = (
    reads_one v v.kind all outer own bounds placed.1 a b (λ c h. all_left (λ s. f s c ≡ g s c) own (read_in (node v rest)) (o c h)),
    reads_same rest all outer (own ++ read_of v v.kind) bounds (n + 1) placed.2 a b (λ c h. subst (λ l. Agree l c) (sym (append_assoc own (read_of v v.kind) (read_in rest))) (o c h)) i,
  )
  reads_same (block bound body rest) all outer own bounds n placed a b o i = (
    reads_same body (read_in body) own [] (bound ∷ bounds) n placed.0 inside (λ c h. all_left (λ s. f s c ≡ g s c) own (read_in (block bound body rest)) (o c h)) inside deeper,
    reads_same rest all outer (own ++ leaves_of body) bounds (n + size body) placed.1 a b (λ c h. subst (λ l. Agree l c) (sym (append_assoc own (leaves_of body) (read_in rest))) (o c h)) (λ c h. (i c h).1),
  )
    where
      inside : (c : List ℕ) → AreBelow c (bound ∷ bounds) → Agree (read_in body) c
      inside [] h = absurd h
      inside (k ∷ c) h = ((i c h.1).0 k h.0).0

      deeper : (c : List ℕ) → AreBelow c (bound ∷ bounds) → Inner body c
      deeper [] h = absurd h
      deeper (k ∷ c) h = ((i c h.1).0 k h.0).1

-- what two solutions give to each vertex in each of its turns
pub solutions_read_same : (epoch : EpochInput) (nodes : Nodes) (f g : Flow) → IsPlacedTree nodes → Solves epoch f [] nodes → Solves epoch g [] nodes → ReadAlike f g [] nodes
solutions_read_same epoch nodes f g placed fs gs =
    reads_same epoch f g nodes (read_in nodes) [] [] [] 0 placed top (λ c h. tt) top within
  where
    ff : IsFlow epoch f nodes []
    ff = solution_is_flow epoch f nodes [] [] tt fs

    gf : IsFlow epoch g nodes []
    gf = solution_is_flow epoch g nodes [] [] tt gs

    top : (c : List ℕ) → AreBelow c [] → Agree epoch f g (read_in nodes) c
    top [] h = both_ends epoch f g [] (turn epoch nodes None []) (read_in nodes)
        (ends_read epoch f nodes [] (turn epoch nodes None []) (turn_ends epoch f nodes (read_in nodes) [] [] None [] [] placed ff refl tt) ff)
        (ends_read epoch g nodes [] (turn epoch nodes None []) (turn_ends epoch g nodes (read_in nodes) [] [] None [] [] placed gf refl tt) gf)
    top (k ∷ c) h = absurd h

    within : (c : List ℕ) → AreBelow c [] → Inner epoch f g nodes c
    within [] h = inner epoch f g nodes (read_in nodes) [] [] None [] [] placed ff gf refl refl tt tt
    within (k ∷ c) h = absurd h
