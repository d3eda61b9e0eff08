-- What the machine wants of a plan, of each plan without faults: by the laws of plans and of could-result-in.
use Rattle.std.proofs.Common.{◌≡◌, ℕ, suc, ◌+◌, ◌<◌, Bool, true, false, List, [], ◌∷◌, refl, ap, sym, ◌∙◌, subst, arith}
use Rattle.std.specs.Prelude.{Option, None, Some, not, ◌&&◌, nat_lt, unwrap_or, if◌then◌else◌}
use Rattle.std.specs.List.{AllByRecursion, slice_get, enumerate_from}
use Rattle.std.proofs.lemmas.Bool.Decides.{nat_tests}
use Rattle.std.proofs.lemmas.Option.{slice_get_within}
use Rattle.td_stamp.specs.Time.{Timestamp, again, raised, outer_turns}
use Rattle.td_plan.specs.declared.vertex.Kind.{Kind}
use Rattle.td_plan.specs.declared.vertex.Kind.TheVariants.{Input, Map, Distinct, Group, Fold, Enter, Feedback, Leave, Output}
use Rattle.td_plan.specs.declared.vertex.Edge.{Edge}
use Rattle.td_plan.specs.declared.vertex.Loop.{Loop}
use Rattle.td_plan.specs.Lines.{Line}
use Rattle.td_plan.specs.Blocks.{PlacedVertex, vertices, edges, bounds, reading_loops, read_loops, reading_loops_at, read_loops_at, sources_at}
use Rattle.td_plan.specs.Inputs.{is_input_of}
use Rattle.td_plan.specs.Faults.{IsPlan, is_input, is_in_loop, is_of_outermost, is_fold}
use Rattle.td_plan.specs.Laid.{AreLaid as AreLaidPlain}
use Rattle.td_plan.specs.Standing.{may_stand, IsBounded}
use Rattle.td_plan.specs.Tree.{Nodes, tree_of, size}
use Rattle.td_plan.specs.Tree.Nodes.{done, node, block}
use Rattle.td_batch.specs.Flow.{AreBelow}
use Rattle.td_machine.specs.Active.{kind_of, kind_or, bound_of}
use Rattle.td_machine.specs.Steps.{sending_times, again_below}
use Rattle.td_machine.proofs.Flows.{AreLaid, innermost_bound}
use Rattle.td_machine.proofs.PlanFacts.{PlanFacts, InTurn, IsFound, LeadsOn, LeadsAway, AreReadThere}
use Rattle.td_machine.proofs.Lists.{all_weaken, all_at}
use Rattle.td_machine.proofs.Away.{leads_away}
use Rattle.td_machine.specs.Below.{Below}

module _ (below : Below) where
  -- of one that stands outside loops
  no_loops : (kind : Kind) (loops : List Loop) → is_in_loop loops ≡ false → reading_loops kind loops ≡ []
  no_loops kind (l ∷ loops) e = absurd (cc)
  no_loops Enter [] e = refl
  no_loops _ [] e = refl

  outside : (loops : List Loop) (kind : Kind) → may_stand (is_in_loop loops) kind ≡ true → is_of_outermost kind ≡ true → is_in_loop loops ≡ false
  outside [] kind e t = refl
  outside (l ∷ loops) kind e t = absurd (let no : false ≡ true = sym (ap (λ b. not b && not (is_fold kind)) t) ∙ e in cc)

  outside_too : (loops : List Loop) (kind : Kind) → may_stand (is_in_loop loops) kind ≡ true → is_fold kind ≡ true → is_in_loop loops ≡ false
  outside_too [] kind e t = refl
  outside_too (l ∷ loops) kind e t = absurd (by (not (is_of_outermost kind)) (ap (λ b. not (is_of_outermost kind) && not b) (sym t) ∙ e))
    where
      by : (b : Bool) → (b && false) ≡ true → ⊥
      by true f = cc
      by false f = cc

  -- A TIME IN TURN IS SENT IN TURN
  sent_again : (l : Loop) (outer : List Loop) (t : Timestamp) (turns : List ℕ) → t.turns ≡ turns → AreBelow turns (bounds (l ∷ outer)) → AllByRecursion (λ later. AreBelow later.turns (bounds (l ∷ outer))) (again_below l.bound t turns)
  sent_again l outer t [] e h = tt
  sent_again l outer t (k ∷ cs) e h = by (nat_lt (suc k) l.bound) refl
    where
      by : (b : Bool) → nat_lt (suc k) l.bound ≡ b → AllByRecursion (λ (later : Timestamp). AreBelow later.turns (bounds (l ∷ outer))) (if b then again t ∷ [] else [])
      by false f = tt
      by true f =
          let few : k + 1 < l.bound = grind (arith, nat_tests) in
          let turns : (again t).turns ≡ (k + 1) ∷ cs = ap (λ ts. raised 1 ts) e in
          (subst (λ ts. AreBelow ts (bounds (l ∷ outer))) (sym turns) (few, h.1), tt)

  left_turns : (l : Loop) (outer : List Loop) (turns : List ℕ) → AreBelow turns (bounds (l ∷ outer)) → AreBelow (outer_turns turns) (bounds outer)
  left_turns l outer [] h = absurd h
  left_turns l outer (k ∷ cs) h = h.1

  sent_in_turn : (kind : Kind) (loops there : List Loop) (t : Timestamp) → may_stand (is_in_loop loops) kind ≡ true → AllByRecursion IsBounded loops → read_loops kind loops ≡ Some there
      → AreBelow t.turns (bounds (reading_loops kind loops)) → AllByRecursion (λ later. AreBelow later.turns (bounds there)) (sending_times kind (unwrap_or (slice_get (bounds loops) 0) 0) t)
  sent_in_turn Enter [] there t around some is h = absurd (cc)
  sent_in_turn Enter (l ∷ outer) there t around some is h =
      let home : l ∷ outer ≡ there = cc in
      let first : 0 < l.bound = (let low = some.0.0 in omega (arith, low)) in
      subst (λ ls. AllByRecursion (λ (later : Timestamp). AreBelow later.turns (bounds ls)) (sending_times Enter l.bound t)) home ((first, h), tt)
  sent_in_turn Leave [] there t around some is h = absurd (cc)
  sent_in_turn Leave (l ∷ outer) there t around some is h = let home : outer ≡ there = cc in subst (λ ls. AllByRecursion (λ (later : Timestamp). AreBelow later.turns (bounds ls)) (sending_times Leave l.bound t)) home (left_turns l outer t.turns h, tt)
  sent_in_turn Feedback [] there t around some is h = absurd (cc)
  sent_in_turn Feedback (l ∷ outer) there t around some is h = let home : l ∷ outer ≡ there = cc in subst (λ ls. AllByRecursion (λ (later : Timestamp). AreBelow later.turns (bounds ls)) (sending_times Feedback l.bound t)) home (sent_again l outer t t.turns refl h)
  sent_in_turn Output loops there t around some is h = absurd (cc)
  sent_in_turn _ loops there t around some is h = let home : loops ≡ there = cc in (subst (λ ls. AreBelow t.turns (bounds ls)) home h, tt)

  pub input_kind : (kind : Kind) → is_input kind ≡ true → kind ≡ Input
  input_kind Input e = refl
  input_kind (Map code) e = absurd (cc)
  input_kind Distinct e = absurd (cc)
  input_kind (Group code) e = absurd (cc)
  input_kind (Fold code) e = absurd (cc)
  input_kind Enter e = absurd (cc)
  input_kind Feedback e = absurd (cc)
  input_kind Leave e = absurd (cc)
  input_kind Output e = absurd (cc)

  innermost : (own : List ℕ) → unwrap_or (slice_get own 0) 0 ≡ innermost_bound own
  innermost [] = refl
  innermost (b ∷ own) = refl

  -- WHERE THE TREE'S VERTICES STAND
  laid_nodes : (plan : List Line) (nodes : Nodes) (own : List ℕ) → AreLaidPlain plan own nodes → AreLaid plan own nodes
  laid_nodes plan done own h = tt
  laid_nodes plan (node v rest) own h =
      (record { kind = ap kind_or h.0.kind; into = h.0.into; reads = h.0.reads; bound = ap (λ bs. unwrap_or (slice_get bs 0) 0) h.0.stands ∙ innermost own }, laid_nodes plan rest own h.1)
  laid_nodes plan (block bound body rest) own h = (laid_nodes plan body (bound ∷ own) h.0, laid_nodes plan rest own h.1)

  module _ (plan : List Line) (lawful : IsPlan plan) where
    pub plan_laid : AreLaid plan [] (tree_of plan)
    plan_laid = laid_nodes plan (tree_of plan) [] (below.laid plan lawful)

    found : AllByRecursion (IsFound plan) (edges plan)
    found = all_at (IsFound plan) (edges plan) (λ i e at. ap (slice_get (edges plan)) (below.edge_numbers plan lawful i e at) ∙ at)

    leads_on : (i : ℕ) (e : Edge) → slice_get (edges plan) i ≡ Some e → LeadsOn plan e
    leads_on i e at t turn = by (slice_get (vertices plan) e.source) refl
      where
        is : read_loops_at plan e.source ≡ Some (reading_loops_at plan e.reader)
        is = below.read_there plan lawful e.reader e.port e.source (below.edge_sources plan lawful i e at)

        by : (o : Option PlacedVertex) → slice_get (vertices plan) e.source ≡ o → AllByRecursion (InTurn plan e.reader) (sending_times (kind_of plan e.source) (bound_of plan e.source) t)
        by None at_u = absurd (let none : None ≡ Some (reading_loops_at plan e.reader) = sym (ap (λ (x : Option PlacedVertex). elim x [ None ↦ None | Some p ↦ read_loops p.vertex.kind p.loops ]) at_u) ∙ is in cc)
        by (Some p) at_u =
            let there : List Loop = reading_loops_at plan e.reader in
            let read_p : read_loops p.vertex.kind p.loops ≡ Some there = sym (ap (λ (x : Option PlacedVertex). elim x [ None ↦ None | Some p ↦ read_loops p.vertex.kind p.loops ]) at_u) ∙ is in
            let reads_p : reading_loops_at plan e.source ≡ reading_loops p.vertex.kind p.loops = ap (λ (x : Option PlacedVertex). elim x [ None ↦ [] | Some p ↦ reading_loops p.vertex.kind p.loops ]) at_u in
            let kind_p : kind_of plan e.source ≡ p.vertex.kind = ap (λ (o : Option PlacedVertex). kind_or (elim o [ None ↦ None | Some q ↦ Some q.vertex.kind ])) at_u in
            let bound_p : bound_of plan e.source ≡ unwrap_or (slice_get (bounds p.loops) 0) 0 = ap (λ (o : Option PlacedVertex). unwrap_or (slice_get (bounds (elim o [ None ↦ [] | Some q ↦ q.loops ])) 0) 0) at_u in
            let sent = sent_in_turn p.vertex.kind p.loops there t (below.kinds_stand plan lawful e.source p at_u) (below.bounds_stand plan lawful e.source p at_u) read_p (subst (λ ls. AreBelow t.turns (bounds ls)) reads_p turn) in
            subst (λ b. AllByRecursion (λ (later : Timestamp). AreBelow later.turns (bounds there)) (sending_times (kind_of plan e.source) b t)) (sym bound_p)
            (subst (λ k. AllByRecursion (λ (later : Timestamp). AreBelow later.turns (bounds there)) (sending_times k (unwrap_or (slice_get (bounds p.loops) 0) 0) t)) (sym kind_p) sent)

    -- WHERE SOURCES ARE READ
    by_port : (p : PlacedVertex) (n : ℕ) → slice_get (vertices plan) n ≡ Some p → (k : ℕ) (ss : List ℕ) → ((i s : ℕ) → slice_get ss i ≡ Some s → slice_get p.vertex.sources (k + i) ≡ Some s)
        → AllByRecursion (λ s. read_loops_at plan s.1 ≡ Some (reading_loops p.vertex.kind p.loops)) (enumerate_from k ss)
    by_port p n at k [] h = tt
    by_port p n at k (s ∷ ss) h =
        let none : k + 0 ≡ k = omega arith in
        let here : slice_get p.vertex.sources k ≡ Some s = ap (slice_get p.vertex.sources) (sym none) ∙ h 0 s refl in
        let source : slice_get (sources_at plan n) k ≡ Some s = ap (λ (o : Option PlacedVertex). slice_get (elim o [ None ↦ [] | Some q ↦ q.vertex.sources ]) k) at ∙ here in
        let home : reading_loops_at plan n ≡ reading_loops p.vertex.kind p.loops = ap (λ (o : Option PlacedVertex). elim o [ None ↦ [] | Some q ↦ reading_loops q.vertex.kind q.loops ]) at in
        (below.read_there plan lawful n k s source ∙ ap Some home, by_port p n at (k + 1) ss (λ i x f. let next : k + 1 + i ≡ k + suc i = omega arith in ap (slice_get p.vertex.sources) next ∙ h (suc i) x f))

    read_there : AllByRecursion (AreReadThere plan) (vertices plan)
    read_there = all_at (AreReadThere plan) (vertices plan) (λ n p at. by_port p n at 0 p.vertex.sources (λ i s f. (let none : 0 + i ≡ i = omega arith in ap (slice_get p.vertex.sources) none) ∙ f))

    -- WHERE KINDS STAND
    kind_here : (v : ℕ) (p : PlacedVertex) → slice_get (vertices plan) v ≡ Some p → kind_of plan v ≡ p.vertex.kind
    kind_here v p at = ap (λ (o : Option PlacedVertex). kind_or (elim o [ None ↦ None | Some q ↦ Some q.vertex.kind ])) at

    kind_none : (v : ℕ) → slice_get (vertices plan) v ≡ None → kind_of plan v ≡ Input
    kind_none v at = ap (λ (o : Option PlacedVertex). kind_or (elim o [ None ↦ None | Some q ↦ Some q.vertex.kind ])) at

    reads_here : (v : ℕ) (p : PlacedVertex) → slice_get (vertices plan) v ≡ Some p → is_in_loop p.loops ≡ false → reading_loops_at plan v ≡ []
    reads_here v p at out = ap (λ (x : Option PlacedVertex). elim x [ None ↦ [] | Some p ↦ reading_loops p.vertex.kind p.loops ]) at ∙ no_loops p.vertex.kind p.loops out

    within : (v : ℕ) (p : PlacedVertex) → slice_get (vertices plan) v ≡ Some p → v < size (tree_of plan)
    within v p at = subst (λ n. v < n) (below.many plan lawful) (slice_get_within (vertices plan) v p at)

    inputs : (v : ℕ) → kind_of plan v ≡ Input → reading_loops_at plan v ≡ []
    inputs v k = by (slice_get (vertices plan) v) refl
      where
        by : (o : Option PlacedVertex) → slice_get (vertices plan) v ≡ o → reading_loops_at plan v ≡ []
        by None at = ap (λ (x : Option PlacedVertex). elim x [ None ↦ [] | Some p ↦ reading_loops p.vertex.kind p.loops ]) at
        by (Some p) at = reads_here v p at (outside p.loops p.vertex.kind (below.kinds_stand plan lawful v p at) (ap is_of_outermost (sym (kind_here v p at) ∙ k)))

    folds : (v code : ℕ) → kind_of plan v ≡ Fold code → (reading_loops_at plan v ≡ []) × (v < size (tree_of plan))
    folds v code k = by (slice_get (vertices plan) v) refl
      where
        by : (o : Option PlacedVertex) → slice_get (vertices plan) v ≡ o → (reading_loops_at plan v ≡ []) × (v < size (tree_of plan))
        by None at = absurd (let h : Input ≡ Fold code = sym (kind_none v at) ∙ k in cc)
        by (Some p) at = (reads_here v p at (outside_too p.loops p.vertex.kind (below.kinds_stand plan lawful v p at) (ap is_fold (sym (kind_here v p at) ∙ k))), within v p at)

    outputs : (v : ℕ) → kind_of plan v ≡ Output → (reading_loops_at plan v ≡ []) × (v < size (tree_of plan))
    outputs v k = by (slice_get (vertices plan) v) refl
      where
        by : (o : Option PlacedVertex) → slice_get (vertices plan) v ≡ o → (reading_loops_at plan v ≡ []) × (v < size (tree_of plan))
        by None at = absurd (let h : Input ≡ Output = sym (kind_none v at) ∙ k in cc)
        by (Some p) at = (reads_here v p at (outside p.loops p.vertex.kind (below.kinds_stand plan lawful v p at) (ap is_of_outermost (sym (kind_here v p at) ∙ k))), within v p at)

    -- a batch names inputs
    accepted : (v : ℕ) → is_input_of plan v ≡ true → kind_of plan v ≡ Input
    accepted v h = by (slice_get (vertices plan) v) refl
      where
        by : (o : Option PlacedVertex) → slice_get (vertices plan) v ≡ o → kind_of plan v ≡ Input
        by None at = kind_none v at
        by (Some p) at = kind_here v p at ∙ input_kind p.vertex.kind (sym (ap (λ (x : Option PlacedVertex). elim x [ None ↦ false | Some q ↦ is_input q.vertex.kind ]) at) ∙ h)

    pub plan_facts : PlanFacts plan
    plan_facts = record {
      found = found;
      on = all_at (LeadsOn plan) (edges plan) leads_on;
      read = read_there;
      away = all_weaken (IsFound plan) (LeadsAway plan) (leads_away below plan lawful) (edges plan) found;
      inputs = inputs;
      folds = λ v code k. (folds v code k).0;
      outputs = outputs;
      few = λ v code k. (folds v code k).1;
      accepted = accepted;
    }
