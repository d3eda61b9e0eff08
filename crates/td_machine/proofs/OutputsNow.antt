-- The outputs of a passed epoch are those of the batch meaning.
use Rattle.std.proofs.Common.{◌≡◌, ℕ, ◌+◌, ◌<◌, ◌≤◌, List, [], ◌∷◌, ◌++◌, map, flat_map, filter, refl, ap, sym, ◌∙◌, subst, Bool, true, false, ◌&&◌, arith, ◌==◌, if◌then◌else◌}
use Rattle.std.specs.Prelude.{nat_lt}
use Rattle.std.specs.List.{AllByRecursion}
use Rattle.std.proofs.lemmas.Bool.{lt-ltb, ltb-true, ltb-false, eqb-true}
use Rattle.std.proofs.lemmas.Cmp.{tied_itself}
use Rattle.std.proofs.lemmas.Grind.{flat_map-append}
use Rattle.std.specs.declared.cmp.Ordering.{Ordering}
use Rattle.std.specs.declared.cmp.Ordering.TheVariants.{Less, Equal, Greater}
use Rattle.std.specs.Ordering.{nat_cmp, ordering_then}
use Rattle.std.specs.Cmp.{nat_cmp_total}
use Rattle.td_stamp.specs.declared.values.Rec.{Rec}
use Rattle.td_stamp.specs.declared.values.Output.{Output as Out}
use Rattle.td_stamp.specs.Orders.{rec_cmp, output_cmp}
use Rattle.td_stamp.specs.Time.{Timestamp}
use Rattle.td_stamp.specs.Bag.{bag_insert, join, bag_of}
use Rattle.td_stamp.specs.Groups.{rec_of}
use Rattle.td_plan.specs.declared.vertex.Kind.{Kind}
use Rattle.td_plan.specs.declared.vertex.Kind.TheVariants.{Input, Map, Distinct, Group, Fold, Enter, Feedback, Leave, Output}
use Rattle.td_plan.specs.Lines.{Vertex, Line}
use Rattle.td_plan.specs.Blocks.{bounds}
use Rattle.td_plan.specs.Tree.{Nodes, size, tree_of, IsNumbered}
use Rattle.td_plan.specs.Tree.Nodes.{done, node, block}
use Rattle.td_calls.specs.Answers.{Answers}
use Rattle.td_batch.specs.Meaning.{answer, outputs_at, outputs_in}
use Rattle.td_batch.specs.Flow.{AreBelow}
use Rattle.td_reach.specs.declared.stamp.Stamp.{Stamp}
use Rattle.td_machine.specs.declared.records.Message.{Message}
use Rattle.td_machine.specs.declared.records.OutputAt.{OutputAt}
use Rattle.td_machine.specs.State.{HallState, output_at_cmp, is_there, same_time, arrival}
use Rattle.td_machine.specs.Active.{kind_of, active}
use Rattle.td_machine.specs.Steps.{comes_out, outputs_at as hall_outputs}
use Rattle.td_machine.proofs.History.{Origin, History, Running, IsTime, has_answer, epoch_from, came_at}
use Rattle.td_plan.specs.Laid.{read_bounds}
use Rattle.td_machine.proofs.Flows.{flow_of, IsLaid, AreLaid}
use Rattle.td_machine.proofs.PlanFacts.{PlanFacts}
use Rattle.td_machine.proofs.Lists.{filter_yes, filter_no, filter_filter, filter_alike, all_weaken, all_everywhere, all_filter}
use Rattle.td_machine.proofs.Plain.{eqb-same}
use Rattle.td_machine.proofs.Exchanges.{exchanged}
use Rattle.td_machine.proofs.Passed.{all_ready, map_flat, filter_flat}
use Rattle.td_machine.proofs.Solved.{plain, same_itself, never_same}
use Rattle.td_machine.proofs.Releases.{no_turns}
use Rattle.td_machine.proofs.Bags.{insert_past, insert_before_less, insert_before_equal, bag_of-append, join-bag_of, filter-bag_of, all_join, mapped_bag}
use Rattle.td_machine.specs.Below.{Below}

module _ (below : Below) where
  -- in a bag of one epoch the epochs do not matter
  abbrev out_at : OutputAt → Out
  out_at = λ o. o.output

  same_cmp : (x y : OutputAt) → x.epoch ≡ y.epoch → output_at_cmp x y ≡ output_cmp x.output y.output
  same_cmp x y e = ap (λ o. ordering_then o (output_cmp x.output y.output)) (ap (nat_cmp x.epoch) (sym e) ∙ tied_itself nat_cmp_total x.epoch)

  insert_same : (x : OutputAt) (ys : List OutputAt) → AllByRecursion (λ (y : OutputAt). x.epoch ≡ y.epoch) ys → map out_at (bag_insert output_at_cmp x ys) ≡ bag_insert output_cmp x.output (map out_at ys)
  insert_same x [] h = refl
  insert_same x (y ∷ ys) h = by (output_cmp x.output y.output) refl (insert_same x ys h.1)
    where
      by : (o : Ordering) → output_cmp x.output y.output ≡ o → map out_at (bag_insert output_at_cmp x ys) ≡ bag_insert output_cmp x.output (map out_at ys) → map out_at (bag_insert output_at_cmp x (y ∷ ys)) ≡ bag_insert output_cmp x.output (map out_at (y ∷ ys))
      by Less e rest = ap (map out_at) (insert_before_less output_at_cmp x y ys (same_cmp x y h.0 ∙ e)) ∙ sym (insert_before_less output_cmp x.output y.output (map out_at ys) e)
      by Equal e rest = ap (map out_at) (insert_before_equal output_at_cmp x y ys (same_cmp x y h.0 ∙ e)) ∙ sym (insert_before_equal output_cmp x.output y.output (map out_at ys) e)
      by Greater e rest =
          ap (map out_at) (insert_past output_at_cmp x y ys (same_cmp x y h.0 ∙ e)) ∙ ap (λ l. y.output ∷ l) rest ∙ sym (insert_past output_cmp x.output y.output (map out_at ys) e)

  bag_same : (e : ℕ) (xs : List OutputAt) → AllByRecursion (λ (x : OutputAt). x.epoch ≡ e) xs → map out_at (bag_of output_at_cmp xs) ≡ bag_of output_cmp (map out_at xs)
  bag_same e [] h = refl
  bag_same e (x ∷ xs) h =
      insert_same x (bag_of output_at_cmp xs) (all_weaken (λ (y : OutputAt). y.epoch ≡ e) (λ (y : OutputAt). x.epoch ≡ y.epoch) (λ y k. h.0 ∙ sym k) (bag_of output_at_cmp xs) (all_join output_at_cmp (λ (y : OutputAt). y.epoch ≡ e) xs [] h.1 tt))
      ∙ ap (bag_insert output_cmp x.output) (bag_same e xs h.1)

  -- the numbers of the outputs of a tree
  abbrev out_of : Vertex → Kind → List ℕ
  out_of v Output = v.number ∷ []
  out_of v _ = []

  abbrev outs_of : Nodes → List ℕ
  outs_of done = []
  outs_of (node v rest) = out_of v v.kind ++ outs_of rest
  outs_of (block bound body rest) = outs_of rest

  abbrev at_output : ℕ → ℕ → Rec → List Out
  at_output j v r = if j == v then record { vertex = v; rec = r } ∷ [] else []

  apart_no : (j v : ℕ) (r : Rec) → ((j ≡ v) → ⊥) → at_output j v r ≡ []
  apart_no j v r n = by (j == v) refl
    where
      by : (b : Bool) → (j == v) ≡ b → at_output j v r ≡ []
      by false e = ap (λ b. let l : List Out = if b then record { vertex = v; rec = r } ∷ [] else [] in l) e
      by true e = absurd (n (eqb-true j v e))

  same_yes : (j : ℕ) (r : Rec) → at_output j j r ≡ record { vertex = j; rec = r } ∷ []
  same_yes j r = ap (λ b. let l : List Out = if b then record { vertex = j; rec = r } ∷ [] else [] in l) (eqb-same below j)

  module _ (plan : List Line) (facts : PlanFacts plan) (j : ℕ) (r : Rec) where
    here_or : (v : Vertex) (k : Kind) → ((v.number ≡ j) → ⊥) → flat_map (λ v. at_output j v r) (out_of v k) ≡ []
    here_or v Output n = ap (λ l. l ++ []) (apart_no j v.number r (λ e. n (sym e)))
    here_or v Input n = refl
    here_or v (Map code) n = refl
    here_or v Distinct n = refl
    here_or v (Group code) n = refl
    here_or v (Fold code) n = refl
    here_or v Enter n = refl
    here_or v Feedback n = refl
    here_or v Leave n = refl

    not_an_output : (nodes : Nodes) → AreLaid plan [] nodes → ((kind_of plan j ≡ Output) → ⊥) → flat_map (λ v. at_output j v r) (outs_of nodes) ≡ []
    not_an_output done laid n = refl
    not_an_output (block b body rest) laid n = not_an_output rest laid.1 n
    not_an_output (node v rest) laid n =
        flat_map-append (λ v. at_output j v r) (out_of v v.kind) (outs_of rest) ∙ ap (λ l. l ++ flat_map (λ v. at_output j v r) (outs_of rest)) (by v.kind refl) ∙ not_an_output rest laid.1 n
      where
        by : (k : Kind) → v.kind ≡ k → flat_map (λ v. at_output j v r) (out_of v k) ≡ []
        by Output e = here_or v Output (λ s. n (ap (kind_of plan) (sym s) ∙ laid.0.kind ∙ e))
        by Input e = refl
        by (Map code) e = refl
        by Distinct e = refl
        by (Group code) e = refl
        by (Fold code) e = refl
        by Enter e = refl
        by Feedback e = refl
        by Leave e = refl

    after_all : (nodes : Nodes) (n : ℕ) → IsNumbered n nodes → j < n → flat_map (λ v. at_output j v r) (outs_of nodes) ≡ []
    after_all done n num l = refl
    after_all (block b body rest) n num l = after_all rest (n + size body) num.1 (omega (arith, l))
    after_all (node v rest) n num l =
        flat_map-append (λ v. at_output j v r) (out_of v v.kind) (outs_of rest) ∙ ap (λ l. l ++ flat_map (λ v. at_output j v r) (outs_of rest)) (here_or v v.kind (λ s. let e = num.0 in omega (arith, l, s, e)))
        ∙ after_all rest (n + 1) num.1 (omega (arith, l))

    none_inside : (nodes : Nodes) (n bound : ℕ) (outer : List ℕ) → IsNumbered n nodes → AreLaid plan (bound ∷ outer) nodes → kind_of plan j ≡ Output → n ≤ j → j < n + size nodes → ⊥
    none_inside done n bound outer num laid k l h = omega (arith, l, h)
    none_inside (node v rest) n bound outer num laid k l h = by (nat_lt n j) refl (none_inside rest (n + 1) bound outer num.1 laid.1 k)
      where
        here : n ≡ j → ⊥
        here same =
            let at_v : kind_of plan v.number ≡ Output = ap (kind_of plan) (num.0 ∙ same) ∙ k in
            let flat : [] ≡ bound ∷ outer = sym (ap bounds (facts.outputs v.number at_v).0) ∙ laid.0.reads ∙ ap (λ kd. read_bounds kd (bound ∷ outer)) (sym laid.0.kind ∙ at_v) in cc

        by : (b : Bool) → nat_lt n j ≡ b → (n + 1 ≤ j → j < n + 1 + size rest → ⊥) → ⊥
        by true f later = let m = ltb-true n j f in later (omega (arith, m)) (omega (arith, h))
        by false f later = here (omega (arith, l, ltb-false n j f))
    none_inside (block b body rest) n bound outer num laid k l h = by (nat_lt j (n + size body)) refl (none_inside body n b (bound ∷ outer) num.0 laid.0 k l) (none_inside rest (n + size body) bound outer num.1 laid.1 k)
      where
        by : (c : Bool) → nat_lt j (n + size body) ≡ c → (j < n + size body → ⊥) → (n + size body ≤ j → j < n + size body + size rest → ⊥) → ⊥
        by true f inside after = inside (ltb-true j (n + size body) f)
        by false f inside after = after (ltb-false j (n + size body) f) (omega (arith, h))

    -- an output stands in its tree once
    once : (nodes : Nodes) (n : ℕ) → IsNumbered n nodes → AreLaid plan [] nodes → kind_of plan j ≡ Output → n ≤ j → j < n + size nodes → flat_map (λ v. at_output j v r) (outs_of nodes) ≡ record { vertex = j; rec = r } ∷ []
    once done n num laid k l h = absurd (omega (arith, l, h))
    once (block b body rest) n num laid k l h = by (nat_lt j (n + size body)) refl (once rest (n + size body) num.1 laid.1 k)
      where
        by : (c : Bool) → nat_lt j (n + size body) ≡ c → (n + size body ≤ j → j < n + size body + size rest → flat_map (λ v. at_output j v r) (outs_of rest) ≡ record { vertex = j; rec = r } ∷ []) → flat_map (λ v. at_output j v r) (outs_of rest) ≡ record { vertex = j; rec = r } ∷ []
        by true f after = absurd (none_inside body n b [] num.0 laid.0 k l (ltb-true j (n + size body) f))
        by false f after = after (ltb-false j (n + size body) f) (omega (arith, h))
    once (node v rest) n num laid k l h = flat_map-append (λ v. at_output j v r) (out_of v v.kind) (outs_of rest) ∙ by (nat_lt n j) refl (once rest (n + 1) num.1 laid.1 k)
      where
        here : n ≡ j → flat_map (λ v. at_output j v r) (out_of v v.kind) ++ flat_map (λ v. at_output j v r) (outs_of rest) ≡ record { vertex = j; rec = r } ∷ []
        here same =
            let at_j : v.number ≡ j = num.0 ∙ same in
            let kd : v.kind ≡ Output = sym laid.0.kind ∙ ap (kind_of plan) at_j ∙ k in
            (λ i. flat_map (λ v. at_output j v r) (out_of v (kd i)) ++ after_all rest (n + 1) num.1 (omega (arith, same)) i)
            ∙ ap (λ x. (at_output j x r ++ []) ++ []) at_j ∙ ap (λ l. (l ++ []) ++ []) (same_yes j r)

        by : (c : Bool) → nat_lt n j ≡ c → (n + 1 ≤ j → j < n + 1 + size rest → flat_map (λ v. at_output j v r) (outs_of rest) ≡ record { vertex = j; rec = r } ∷ []) → flat_map (λ v. at_output j v r) (out_of v v.kind) ++ flat_map (λ v. at_output j v r) (outs_of rest) ≡ record { vertex = j; rec = r } ∷ []
        by true f later =
            let m = ltb-true n j f in
            ap (λ l. l ++ flat_map (λ v. at_output j v r) (outs_of rest)) (here_or v v.kind (λ s. let e = num.0 in omega (arith, m, s, e))) ∙ later (omega (arith, m)) (omega (arith, h))
        by false f later = here (omega (arith, l, ltb-false n j f))

  module _ (answers : Answers) (origin : Origin) (S : HallState) (H : History) (facts : PlanFacts S.plan) (runs : Running answers origin S H) (e : ℕ) (low : origin.first ≤ e) (high : e < S.next) (passed : AllByRecursion (λ (p : Stamp). e < p.time.epoch) (active S)) where
    abbrev now : Timestamp
    now = record { epoch = e; turns = [] }

    abbrev bag : ℕ → List Rec
    bag v = flow_of S.plan H.sent e v []

    abbrev out_if : ℕ → Message → List Out
    out_if v c = if is_there v now c.vertex c.time then record { vertex = v; rec = c.rec } ∷ [] else []

    -- what came to an output
    listed : (v : ℕ) (cs : List Message) → map (λ (r : Rec). let o : Out = record { vertex = v; rec = r } in o) (map rec_of (came_at cs v now)) ≡ flat_map (out_if v) cs
    listed v [] = refl
    listed v (c ∷ cs) = by (is_there v now c.vertex c.time) refl (listed v cs)
      where
        by : (b : Bool) → is_there v now c.vertex c.time ≡ b → map (λ (r : Rec). let o : Out = record { vertex = v; rec = r } in o) (map rec_of (came_at cs v now)) ≡ flat_map (out_if v) cs
            → map (λ (r : Rec). let o : Out = record { vertex = v; rec = r } in o) (map rec_of (came_at (c ∷ cs) v now)) ≡ flat_map (out_if v) (c ∷ cs)
        by true f rest =
            ap (λ l. map (λ (r : Rec). let o : Out = record { vertex = v; rec = r } in o) (map rec_of (map arrival l))) (filter_yes (λ (c : Message). is_there v now c.vertex c.time) c cs f) ∙ ap (λ l. record { vertex = v; rec = c.rec } ∷ l) rest
            ∙ ap (λ b. (let l : List Out = if b then record { vertex = v; rec = c.rec } ∷ [] else [] in l) ++ flat_map (out_if v) cs) (sym f)
        by false f rest =
            ap (λ l. map (λ (r : Rec). let o : Out = record { vertex = v; rec = r } in o) (map rec_of (map arrival l))) (filter_no (λ (c : Message). is_there v now c.vertex c.time) c cs f) ∙ rest
            ∙ ap (λ b. (let l : List Out = if b then record { vertex = v; rec = c.rec } ∷ [] else [] in l) ++ flat_map (out_if v) cs) (sym f)

    at_vertex : (v : Vertex) → IsLaid S.plan [] v → v.kind ≡ Output → bag_of output_cmp (map (λ (r : Rec). let o : Out = record { vertex = v.number; rec = r } in o) (bag v.number)) ≡ bag_of output_cmp (flat_map (out_if v.number) H.arrived)
    at_vertex v laid k =
        let n : ℕ = v.number in
        let kd : kind_of S.plan n ≡ Output = laid.kind ∙ k in
        let time : IsTime origin S.next S.plan n now = (low, high, subst (λ l. AreBelow [] (bounds l)) (sym (facts.outputs n kd).0) tt) in
        let flows : bag n ≡ bag_of rec_cmp (map rec_of (came_at H.arrived n now)) =
        plain below answers origin S H runs e low high passed [] v laid Output k (λ u. refl) [] ∙ runs.answered.sent n now time
        ∙ ap (λ kd. answer (epoch_from answers origin H.left e) n kd (came_at (filter (has_answer S.plan S.workers H.notified) H.arrived) n now)) kd
        ∙ ap (λ l. bag_of rec_cmp (map rec_of l)) (all_ready below answers origin S H runs e passed n now refl) in
        ap (λ l. bag_of output_cmp (map (λ (r : Rec). let o : Out = record { vertex = n; rec = r } in o) l)) flows
        ∙ mapped_bag rec_cmp output_cmp below.outputs (λ (r : Rec). let o : Out = record { vertex = n; rec = r } in o) (map rec_of (came_at H.arrived n now))
        ∙ ap (bag_of output_cmp) (listed n H.arrived)

    by_tree : (nodes : Nodes) → AreLaid S.plan [] nodes → bag_of output_cmp (outputs_in bag nodes) ≡ bag_of output_cmp (flat_map (λ v. flat_map (out_if v) H.arrived) (outs_of nodes))
    by_tree done laid = refl
    by_tree (block b body rest) laid = by_tree rest laid.1
    by_tree (node v rest) laid = by v.kind refl (by_tree rest laid.1)
      where
        by : (k : Kind) → v.kind ≡ k → bag_of output_cmp (outputs_in bag rest) ≡ bag_of output_cmp (flat_map (λ v. flat_map (out_if v) H.arrived) (outs_of rest))
            → bag_of output_cmp (outputs_at bag v k ++ outputs_in bag rest) ≡ bag_of output_cmp (flat_map (λ v. flat_map (out_if v) H.arrived) (out_of v k ++ outs_of rest))
        by Output k h =
            let xs : List Out = map (λ (r : Rec). let o : Out = record { vertex = v.number; rec = r } in o) (bag v.number) in
            let ys : List Out = flat_map (out_if v.number) H.arrived in
            let more : List Out = flat_map (λ v. flat_map (out_if v) H.arrived) (outs_of rest) in
            bag_of-append output_cmp below.outputs xs (outputs_in bag rest) ∙ sym (join-bag_of output_cmp below.outputs xs (bag_of output_cmp (outputs_in bag rest)))
            ∙ (λ i. join output_cmp (at_vertex v laid.0 k i) (h i)) ∙ join-bag_of output_cmp below.outputs ys (bag_of output_cmp more) ∙ sym (bag_of-append output_cmp below.outputs ys more)
        by Input k h = h
        by (Map code) k h = h
        by Distinct k h = h
        by (Group code) k h = h
        by (Fold code) k h = h
        by Enter k h = h
        by Feedback k h = h
        by Leave k h = h

    -- by what came
    abbrev of_record : Message → List Out
    of_record c = map out_at (filter (λ o. o.epoch == e) (comes_out (kind_of S.plan c.vertex) c))

    module _ (numbered : IsNumbered 0 (tree_of S.plan)) (laid : AreLaid S.plan [] (tree_of S.plan)) where
      abbrev outs : List ℕ
      outs = outs_of (tree_of S.plan)

      none_there : (c : Message) → same_time c.time now ≡ false → (vs : List ℕ) → flat_map (λ v. out_if v c) vs ≡ []
      none_there c f [] = refl
      none_there c f (v ∷ vs) = (λ i. (let l : List Out = if (no i) then record { vertex = v; rec = c.rec } ∷ [] else [] in l) ++ none_there c f vs i)
        where
          and_no : (b : Bool) → (b && false) ≡ false
          and_no true = refl
          and_no false = refl

          no : is_there v now c.vertex c.time ≡ false
          no = ap (λ b. (c.vertex == v) && b) f ∙ and_no (c.vertex == v)

      some_there : (c : Message) → same_time c.time now ≡ true → (vs : List ℕ) → flat_map (λ v. out_if v c) vs ≡ flat_map (λ v. at_output c.vertex v c.rec) vs
      some_there c f [] = refl
      some_there c f (v ∷ vs) = (λ i. (let l : List Out = if (yes i) then record { vertex = v; rec = c.rec } ∷ [] else [] in l) ++ some_there c f vs i)
        where
          and_yes : (b : Bool) → (b && true) ≡ b
          and_yes true = refl
          and_yes false = refl

          yes : is_there v now c.vertex c.time ≡ (c.vertex == v)
          yes = ap (λ b. (c.vertex == v) && b) f ∙ and_yes (c.vertex == v)

      other_kind : (c : Message) → ((kind_of S.plan c.vertex ≡ Output) → ⊥) → (b : Bool) → same_time c.time now ≡ b → flat_map (λ v. out_if v c) outs ≡ []
      other_kind c n true f = some_there c f outs ∙ not_an_output S.plan facts c.vertex c.rec (tree_of S.plan) laid n
      other_kind c n false f = none_there c f outs

      an_output : (c : Message) → kind_of S.plan c.vertex ≡ Output → IsTime origin S.next S.plan c.vertex c.time → (b : Bool) → (c.time.epoch == e) ≡ b
          → flat_map (λ v. out_if v c) outs ≡ map out_at (filter (λ o. o.epoch == e) (comes_out Output c))
      an_output c k h true f =
          let fact = facts.outputs c.vertex k in
          let turns : c.time.turns ≡ [] = no_turns below c.time.turns (subst (λ l. AreBelow c.time.turns (bounds l)) fact.0 h.2) in
          let same : c.time ≡ now = λ i. record { epoch = eqb-true c.time.epoch e f i; turns = turns i } in
          some_there c (same_itself below c.time now same) outs ∙ once S.plan facts c.vertex c.rec (tree_of S.plan) 0 numbered laid k (omega arith) (let q = fact.1 in omega (arith, q))
          ∙ sym (ap (map out_at) (filter_yes (λ (o : OutputAt). o.epoch == e) (record { epoch = c.time.epoch; output = record { vertex = c.vertex; rec = c.rec } }) [] f))
      an_output c k h false f =
          none_there c (never_same below c.time now (λ p. let q : c.time.epoch ≡ e = ap (λ (t : Timestamp). t.epoch) p in let no : true ≡ false = sym (eqb-same below e) ∙ ap (λ x. x == e) (sym q) ∙ f in cc)) outs
          ∙ sym (ap (map out_at) (filter_no (λ (o : OutputAt). o.epoch == e) (record { epoch = c.time.epoch; output = record { vertex = c.vertex; rec = c.rec } }) [] f))

      each_record : (c : Message) → IsTime origin S.next S.plan c.vertex c.time → (k : Kind) → kind_of S.plan c.vertex ≡ k → flat_map (λ v. out_if v c) outs ≡ map out_at (filter (λ o. o.epoch == e) (comes_out k c))
      each_record c h Output k = an_output c k h (c.time.epoch == e) refl
      each_record c h Input k = other_kind c (λ p. let no : Input ≡ Output = sym k ∙ p in cc) (same_time c.time now) refl
      each_record c h (Map code) k = other_kind c (λ p. let no : Map code ≡ Output = sym k ∙ p in cc) (same_time c.time now) refl
      each_record c h Distinct k = other_kind c (λ p. let no : Distinct ≡ Output = sym k ∙ p in cc) (same_time c.time now) refl
      each_record c h (Group code) k = other_kind c (λ p. let no : Group code ≡ Output = sym k ∙ p in cc) (same_time c.time now) refl
      each_record c h (Fold code) k = other_kind c (λ p. let no : Fold code ≡ Output = sym k ∙ p in cc) (same_time c.time now) refl
      each_record c h Enter k = other_kind c (λ p. let no : Enter ≡ Output = sym k ∙ p in cc) (same_time c.time now) refl
      each_record c h Feedback k = other_kind c (λ p. let no : Feedback ≡ Output = sym k ∙ p in cc) (same_time c.time now) refl
      each_record c h Leave k = other_kind c (λ p. let no : Leave ≡ Output = sym k ∙ p in cc) (same_time c.time now) refl

      by_records : (cs : List Message) → AllByRecursion (λ (c : Message). IsTime origin S.next S.plan c.vertex c.time) cs → flat_map (λ c. flat_map (λ v. out_if v c) outs) cs ≡ flat_map of_record cs
      by_records [] h = refl
      by_records (c ∷ cs) h = λ i. each_record c h.0 (kind_of S.plan c.vertex) refl i ++ by_records cs h.1 i

      -- THE OUTPUTS of a passed epoch that were not collected
      pub outputs_now : S.collected < e → hall_outputs S e ≡ bag_of output_cmp (outputs_in (λ v. flow_of S.plan H.sent e v []) (tree_of S.plan))
      outputs_now new =
          let all : List OutputAt = flat_map (λ c. comes_out (kind_of S.plan c.vertex) c) H.arrived in
          let is_new : OutputAt → Bool = λ o. nat_lt S.collected o.epoch in
          let is_now : OutputAt → Bool = λ o. o.epoch == e in
          ap (λ l. map out_at (filter is_now l)) runs.told.outputs ∙ ap (map out_at) (filter-bag_of output_at_cmp below.outputs_at is_now (filter is_new all)
          ∙ ap (bag_of output_at_cmp) (filter_filter is_now is_new all ∙ filter_alike (λ o. is_new o && is_now o) is_now all (all_everywhere (λ o. (is_new o && is_now o) ≡ is_now o) (λ o. newer_now o (o.epoch == e) refl) all)))
          ∙ bag_same e (filter is_now all) (all_weaken (λ (o : OutputAt). Unit {0} × (is_now o ≡ true)) (λ (o : OutputAt). o.epoch ≡ e) (λ o k. eqb-true o.epoch e k.1) (filter is_now all) (all_filter (λ (o : OutputAt). Unit {0}) is_now all (all_everywhere (λ (o : OutputAt). Unit {0}) (λ o. tt) all)))
          ∙ ap (bag_of output_cmp) (ap (map out_at) (filter_flat below is_now (λ c. comes_out (kind_of S.plan c.vertex) c) H.arrived) ∙ map_flat below out_at (λ c. filter is_now (comes_out (kind_of S.plan c.vertex) c)) H.arrived ∙ sym (by_records H.arrived runs.answered.arrived_times))
          ∙ sym (exchanged output_cmp below.outputs (λ v c. out_if v c) outs H.arrived) ∙ sym (by_tree (tree_of S.plan) laid)
        where
          newer_now : (o : OutputAt) (b : Bool) → (o.epoch == e) ≡ b → (nat_lt S.collected o.epoch && (o.epoch == e)) ≡ (o.epoch == e)
          newer_now o true f = ap (λ b. b && (o.epoch == e)) (lt-ltb S.collected o.epoch (let q = eqb-true o.epoch e f in omega (arith, new, q)))
          newer_now o false f = ap (λ b. nat_lt S.collected o.epoch && b) f ∙ and_no (nat_lt S.collected o.epoch) ∙ sym f
            where
              and_no : (b : Bool) → (b && false) ≡ false
              and_no true = refl
              and_no false = refl
