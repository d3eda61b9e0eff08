-- The states after a passed epoch are those of the batch meaning.
use Rattle.std.proofs.Common.{◌≡◌, ℕ, ◌+◌, ◌<◌, ◌≤◌, ◌⊎◌, inl, inr, List, [], ◌∷◌, ◌++◌, map, filter, refl, ap, sym, ◌∙◌, Bool, true, false, ◌&&◌, ◌||◌, arith, ◌==◌}
use Rattle.std.specs.Prelude.{nat_lt, nat_le, fold}
use Rattle.std.specs.List.{AllByRecursion}
use Rattle.std.proofs.lemmas.Bool.{lt-ltb, ltb-true, ltb-false, le-ltb, le-leb, leb-true, eqb-true}
use Rattle.std.proofs.lemmas.Cmp.{tied_itself, ranked}
use Rattle.std.specs.declared.cmp.Ordering.{Ordering}
use Rattle.std.specs.declared.cmp.Ordering.TheVariants.{Less, Equal, Greater}
use Rattle.std.specs.Ordering.{is_gt, nat_cmp, ordering_then, MatchOrdering}
use Rattle.std.specs.Cmp.{nat_cmp_total}
use Rattle.std.specs.Option.{option_cmp}
use Rattle.td_stamp.specs.declared.values.Rec.{Rec}
use Rattle.td_stamp.specs.declared.values.Item.{Item}
use Rattle.td_stamp.specs.Time.{Timestamp}
use Rattle.td_stamp.specs.Groups.{groups}
use Rattle.td_stamp.specs.States.{StateList, state_of}
use Rattle.td_stamp.specs.Rises.{Rises}
use Rattle.td_plan.specs.declared.vertex.Kind.{Kind}
use Rattle.td_plan.specs.declared.vertex.Kind.TheVariants.{Input, Map, Distinct, Group, Fold, Enter, Feedback, Leave, Output}
use Rattle.td_plan.specs.Lines.{Vertex}
use Rattle.td_plan.specs.Blocks.{bounds}
use Rattle.td_plan.specs.Tree.{Nodes, size, tree_of, IsNumbered}
use Rattle.td_plan.specs.Tree.Nodes.{done, node, block}
use Rattle.td_plan.specs.Faults.{is_fold}
use Rattle.td_calls.specs.Answers.{Answers}
use Rattle.td_calls.specs.Callbacks.{arrivals, on_notification}
use Rattle.td_batch.specs.Meaning.{EpochInput, with_kept, states_by, states_in}
use Rattle.td_reach.specs.declared.stamp.Stamp.{Stamp}
use Rattle.td_machine.specs.declared.records.StateLeft.{StateLeft}
use Rattle.td_machine.specs.State.{HallState, left_cmp, state_cmp, with_left}
use Rattle.td_machine.specs.Active.{kind_of, active}
use Rattle.td_machine.proofs.History.{Origin, History, Running, epoch_from, came_at, is_left_at, left_by}
use Rattle.td_plan.specs.Laid.{read_bounds}
use Rattle.td_machine.proofs.Flows.{flow_of, IsLaid, AreLaid}
use Rattle.td_machine.proofs.PlanFacts.{PlanFacts}
use Rattle.td_machine.proofs.Lists.{filter_yes, filter_no, filter_none, filter_alike, all_weaken, all_everywhere}
use Rattle.td_machine.proofs.Cuts.{left_app}
use Rattle.td_machine.proofs.Plain.{eqb-same}
use Rattle.td_machine.proofs.Passed.{all_ready, came_is_posted, all_come}
use Rattle.td_machine.proofs.Bags.{Rises-from_IsBag}
use Rattle.td_machine.specs.Below.{Below}

module _ (below : Below) where
  -- A SORTED LIST in two: those that pass q stand before those that pass r
  in_two : (p q r : StateLeft → Bool) → ((x : StateLeft) → p x ≡ (q x || r x)) → ((x : StateLeft) → q x ≡ true → r x ≡ false) → ((x y : StateLeft) → is_gt (left_cmp x y) ≡ false → r x ≡ true → q y ≡ true → ⊥)
      → (xs : List StateLeft) → Rises left_cmp xs → filter p xs ≡ filter q xs ++ filter r xs
  in_two p q r both apart order [] h = refl
  in_two p q r both apart order (x ∷ xs) h = by (q x) refl (r x) refl (in_two p q r both apart order xs h.1)
    where
      test : (a b : Bool) → q x ≡ a → r x ≡ b → p x ≡ (a || b)
      test a b e f = both x ∙ (λ i. e i || f i)

      no_q : r x ≡ true → filter q xs ≡ []
      no_q f = filter_none q xs (all_weaken (λ y. is_gt (left_cmp x y) ≡ false) (λ y. q y ≡ false) (λ y g. at y g (q y) refl) xs h.0)
        where
          at : (y : StateLeft) → is_gt (left_cmp x y) ≡ false → (b : Bool) → q y ≡ b → q y ≡ false
          at y g false e = e
          at y g true e = absurd (order x y g f e)

      by : (a : Bool) → q x ≡ a → (b : Bool) → r x ≡ b → filter p xs ≡ filter q xs ++ filter r xs → filter p (x ∷ xs) ≡ filter q (x ∷ xs) ++ filter r (x ∷ xs)
      by true e b f rest =
          filter_yes p x xs (test true b e f) ∙ ap (λ l. x ∷ l) rest ∙ (λ i. sym (filter_yes q x xs e) i ++ sym (filter_no r x xs (apart x e)) i)
      by false e true f rest =
          filter_yes p x xs (test false true e f) ∙ ap (λ l. x ∷ l) (rest ∙ ap (λ l. l ++ filter r xs) (no_q f)) ∙ (λ i. sym (filter_no q x xs e ∙ no_q f) i ++ sym (filter_yes r x xs f) i)
      by false e false f rest = filter_no p x xs (test false false e f) ∙ rest ∙ (λ i. sym (filter_no q x xs e) i ++ sym (filter_no r x xs f) i)

  -- what stands later in the list
  not_below : (x y : ℕ) (more : Ordering) → is_gt (ordering_then (nat_cmp x y) more) ≡ false → x ≤ y
  not_below x y more e = by (nat_cmp x y) e (ranked x y (nat_cmp x y) refl)
    where
      by : (o : Ordering) → is_gt (ordering_then o more) ≡ false → MatchOrdering o (x < y) (x ≡ y) (y < x) → x ≤ y
      by Less f m = omega (arith, m)
      by Equal f m = omega (arith, m)
      by Greater f m = cc

  later_vertex : (x y : StateLeft) → is_gt (left_cmp x y) ≡ false → x.epoch ≡ y.epoch → x.vertex ≤ y.vertex
  later_vertex x y g e =
      let more : Ordering = ordering_then (nat_cmp x.key y.key) (option_cmp state_cmp x.state y.state) in
      not_below x.vertex y.vertex more (sym (ap (λ o. is_gt (ordering_then o (ordering_then (nat_cmp x.vertex y.vertex) more))) (ap (nat_cmp x.epoch) (sym e) ∙ tied_itself nat_cmp_total x.epoch)) ∙ g)

  later_epoch : (x y : StateLeft) → is_gt (left_cmp x y) ≡ false → x.epoch ≤ y.epoch
  later_epoch x y g = not_below x.epoch y.epoch (ordering_then (nat_cmp x.vertex y.vertex) (ordering_then (nat_cmp x.key y.key) (option_cmp state_cmp x.state y.state))) g

  -- one epoch more
  epoch_in_two : (e k : ℕ) → nat_lt k (e + 1) ≡ (nat_lt k e || (k == e))
  epoch_in_two e k = by (nat_lt k e) refl (k == e) refl
    where
      by : (a : Bool) → nat_lt k e ≡ a → (b : Bool) → (k == e) ≡ b → nat_lt k (e + 1) ≡ (nat_lt k e || (k == e))
      by true f b g = lt-ltb k (e + 1) (let l = ltb-true k e f in omega (arith, l)) ∙ sym (ap (λ b. b || (k == e)) f)
      by false f true g = lt-ltb k (e + 1) (let l = eqb-true k e g in omega (arith, l)) ∙ sym (λ i. f i || g i)
      by false f false g = le-ltb k (e + 1) (further (ltb-false k e f) (nat_lt e k) refl) ∙ sym (λ i. f i || g i)
        where
          further : e ≤ k → (c : Bool) → nat_lt e k ≡ c → e + 1 ≤ k
          further l true h = let m = ltb-true e k h in omega (arith, m)
          further l false h = let same : k ≡ e = omega (arith, l, ltb-false e k h) in let no : false ≡ true = sym g ∙ ap (λ n. k == n) (sym same) ∙ eqb-same below k in cc

  pub one_epoch_more : (e : ℕ) (left : List StateLeft) → Rises left_cmp left → filter (λ k. nat_lt k.epoch (e + 1)) left ≡ filter (λ k. nat_lt k.epoch e) left ++ filter (λ k. k.epoch == e) left
  one_epoch_more e left h = in_two (λ k. nat_lt k.epoch (e + 1)) (λ k. nat_lt k.epoch e) (λ k. k.epoch == e) (λ x. epoch_in_two e x.epoch)
      (λ x l. apart x (ltb-true x.epoch e l) (x.epoch == e) refl) (λ x y g f l. let a = eqb-true x.epoch e f in let b = ltb-true y.epoch e l in omega (arith, a, b, later_epoch x y g)) left h
    where
      apart : (x : StateLeft) → x.epoch < e → (b : Bool) → (x.epoch == e) ≡ b → (x.epoch == e) ≡ false
      apart x l false f = f
      apart x l true f = let a = eqb-true x.epoch e f in absurd (omega (arith, a, l))

  -- the vertices from one number on, below another
  abbrev in_part : ℕ → ℕ → ℕ → StateLeft → Bool
  in_part e n m k = (k.epoch == e) && (nat_le n k.vertex && nat_lt k.vertex m)

  both_true : (a b : Bool) → (a && b) ≡ true → (a ≡ true) × (b ≡ true)
  both_true true b e = (refl, e)
  both_true false b e = cc

  part_is : (e n m : ℕ) (k : StateLeft) → in_part e n m k ≡ true → (k.epoch ≡ e) × (n ≤ k.vertex) × (k.vertex < m)
  part_is e n m k h = let a = both_true (k.epoch == e) (nat_le n k.vertex && nat_lt k.vertex m) h in let b = both_true (nat_le n k.vertex) (nat_lt k.vertex m) a.1 in (eqb-true k.epoch e a.0, leb-true n k.vertex b.0, ltb-true k.vertex m b.1)

  is_part : (e n m : ℕ) (k : StateLeft) → k.epoch ≡ e → n ≤ k.vertex → k.vertex < m → in_part e n m k ≡ true
  is_part e n m k p l h = λ i. (ap (λ x. x == e) p ∙ eqb-same below e) i && (le-leb n k.vertex l i && lt-ltb k.vertex m h i)

  from_true : (a b : Bool) → (a ≡ true → b ≡ true) → (b ≡ true → a ≡ true) → a ≡ b
  from_true true true f g = refl
  from_true true false f g = sym (f refl)
  from_true false true f g = g refl
  from_true false false f g = refl

  or_is : (a b : Bool) → (a || b) ≡ true → (a ≡ true) ⊎ (b ≡ true)
  or_is true b e = inl refl
  or_is false b e = inr e

  or_left : (a b : Bool) → a ≡ true → (a || b) ≡ true
  or_left true b e = refl
  or_left false b e = cc

  or_right : (a b : Bool) → b ≡ true → (a || b) ≡ true
  or_right true b e = refl
  or_right false b e = e

  -- the parts of two ranges one after the other
  parts_split : (e n i m : ℕ) → n ≤ i → i ≤ m → (left : List StateLeft) → Rises left_cmp left → filter (in_part e n m) left ≡ filter (in_part e n i) left ++ filter (in_part e i m) left
  parts_split e n i m l h left r = in_two (in_part e n m) (in_part e n i) (in_part e i m)
      (λ x. from_true (in_part e n m x) (in_part e n i x || in_part e i m x) (λ t. let p = part_is e n m x t in at x p (nat_lt x.vertex i) refl) (λ t. back x (or_is (in_part e n i x) (in_part e i m x) t)))
      (λ x t. apart x (part_is e n i x t) (in_part e i m x) refl)
      (λ x y g f t. let a = part_is e i m x f in let b = part_is e n i y t in omega (arith, a.1, b.2, later_vertex x y g (a.0 ∙ sym b.0))) left r
    where
      at : (x : StateLeft) → (x.epoch ≡ e) × (n ≤ x.vertex) × (x.vertex < m) → (b : Bool) → nat_lt x.vertex i ≡ b → (in_part e n i x || in_part e i m x) ≡ true
      at x p true f = or_left (in_part e n i x) (in_part e i m x) (is_part e n i x p.0 p.1 (ltb-true x.vertex i f))
      at x p false f = or_right (in_part e n i x) (in_part e i m x) (is_part e i m x p.0 (ltb-false x.vertex i f) p.2)

      back : (x : StateLeft) → (in_part e n i x ≡ true) ⊎ (in_part e i m x ≡ true) → in_part e n m x ≡ true
      back x (inl t) = let p = part_is e n i x t in is_part e n m x p.0 p.1 (omega (arith, p.2, h))
      back x (inr t) = let p = part_is e i m x t in is_part e n m x p.0 (omega (arith, p.1, l)) p.2

      apart : (x : StateLeft) → (x.epoch ≡ e) × (n ≤ x.vertex) × (x.vertex < i) → (b : Bool) → in_part e i m x ≡ b → in_part e i m x ≡ false
      apart x p false f = f
      apart x p true f = let q = part_is e i m x f in absurd (omega (arith, p.2, q.1))

  one_vertex : (e n : ℕ) (left : List StateLeft) → filter (in_part e n (n + 1)) left ≡ filter (is_left_at e n) left
  one_vertex e n left = filter_alike (in_part e n (n + 1)) (is_left_at e n) left (all_everywhere (λ k. in_part e n (n + 1) k ≡ is_left_at e n k) (λ k. from_true (in_part e n (n + 1) k) (is_left_at e n k)
      (λ t. let p = part_is e n (n + 1) k t in let same : k.vertex ≡ n = omega (arith, p.1, p.2) in λ i. (ap (λ x. x == e) p.0 ∙ eqb-same below e) i && (ap (λ x. x == n) same ∙ eqb-same below n) i)
      (λ t. let a = both_true (k.epoch == e) (k.vertex == n) t in let same = eqb-true k.vertex n a.1 in is_part e n (n + 1) k (eqb-true k.epoch e a.0) (omega (arith, same)) (omega (arith, same)))) left)

  -- what a fold leaves, put in turn
  put_left : (epoch : EpochInput) (code e n : ℕ) (gs : List (ℕ × List Item)) (states : StateList)
      → with_left states (map (left_by epoch code e n) gs) ≡ fold (λ kept g. with_kept kept n g.0 (on_notification epoch.answers (Fold code) g.0 (state_of epoch.states n g.0) g.1).0) states gs
  put_left epoch code e n [] states = refl
  put_left epoch code e n (g ∷ gs) states = put_left epoch code e n gs (with_kept states n g.0 (on_notification epoch.answers (Fold code) g.0 (state_of epoch.states n g.0) g.1).0)

  not_fold : (k : Kind) → ((code : ℕ) → k ≡ Fold code → ⊥) → is_fold k ≡ false
  not_fold Input n = refl
  not_fold (Map code) n = refl
  not_fold Distinct n = refl
  not_fold (Group code) n = refl
  not_fold (Fold code) n = absurd (n code refl)
  not_fold Enter n = refl
  not_fold Feedback n = refl
  not_fold Leave n = refl
  not_fold Output n = refl

  module _ (answers : Answers) (origin : Origin) (S : HallState) (H : History) (facts : PlanFacts S.plan) (runs : Running answers origin S H) (e : ℕ) (low : origin.first ≤ e) (high : e < S.next) (passed : AllByRecursion (λ (p : Stamp). e < p.time.epoch) (active S)) where
    abbrev epoch : EpochInput
    epoch = epoch_from answers origin H.left e

    abbrev bag : ℕ → List Rec
    bag v = flow_of S.plan H.sent e v []

    rises : Rises left_cmp H.left
    rises = Rises-from_IsBag left_cmp below.left H.left runs.told.left_bag

    -- nothing is left where no fold stands
    nothing_left : (p : StateLeft → Bool) → ((k : StateLeft) → p k ≡ true → is_fold (kind_of S.plan k.vertex) ≡ false) → filter p H.left ≡ []
    nothing_left p n = filter_none p H.left (all_weaken (λ (k : StateLeft). (is_fold (kind_of S.plan k.vertex) ≡ true) × (origin.first ≤ k.epoch) × (k.epoch < S.next)) (λ k. p k ≡ false) (λ k h. by k h.0 (p k) refl) H.left runs.answered.folds_left)
      where
        by : (k : StateLeft) → is_fold (kind_of S.plan k.vertex) ≡ true → (b : Bool) → p k ≡ b → p k ≡ false
        by k h false f = f
        by k h true f = let no : true ≡ false = sym h ∙ n k f in cc

    no_fold_at : (v : Vertex) (laid : IsLaid S.plan [] v) (kind : Kind) → v.kind ≡ kind → is_fold kind ≡ false → filter (is_left_at e v.number) H.left ≡ []
    no_fold_at v laid kind k n = nothing_left (is_left_at e v.number) (λ x t. ap (λ m. is_fold (kind_of S.plan m)) (eqb-true x.vertex v.number (both_true (x.epoch == e) (x.vertex == v.number) t).1) ∙ ap is_fold (laid.kind ∙ k) ∙ n)

    -- at a vertex outside loops
    left_there : (v : Vertex) (laid : IsLaid S.plan [] v) (kind : Kind) → v.kind ≡ kind → (states : StateList) → with_left states (filter (is_left_at e v.number) H.left) ≡ states_by epoch v kind (arrivals (map bag v.sources)) states
    left_there v laid (Fold code) k states =
        let t : Timestamp = record { epoch = e; turns = [] } in
        ap (with_left states) (runs.answered.left v.number code e (laid.kind ∙ k) low high
        ∙ ap (λ gs. map (left_by epoch code e v.number) gs) (ap groups (all_ready below answers origin S H runs e passed v.number t refl) ∙ sym (below.groups_of_bag (came_at H.arrived v.number t))
        ∙ ap groups (came_is_posted below answers origin S H runs e passed v.number t refl ∙ all_come below S.plan H.sent v.number v.sources laid.into e []) ∙ below.groups_of_bag (arrivals (map bag v.sources))))
        ∙ put_left epoch code e v.number (groups (arrivals (map bag v.sources))) states
    left_there v laid Input k states = ap (with_left states) (no_fold_at v laid Input k refl)
    left_there v laid (Map code) k states = ap (with_left states) (no_fold_at v laid (Map code) k refl)
    left_there v laid Distinct k states = ap (with_left states) (no_fold_at v laid Distinct k refl)
    left_there v laid (Group code) k states = ap (with_left states) (no_fold_at v laid (Group code) k refl)
    left_there v laid Enter k states = ap (with_left states) (no_fold_at v laid Enter k refl)
    left_there v laid Feedback k states = ap (with_left states) (no_fold_at v laid Feedback k refl)
    left_there v laid Leave k states = ap (with_left states) (no_fold_at v laid Leave k refl)
    left_there v laid Output k states = ap (with_left states) (no_fold_at v laid Output k refl)

    no_folds_in : (nodes : Nodes) (n bound : ℕ) (outer : List ℕ) → IsNumbered n nodes → AreLaid S.plan (bound ∷ outer) nodes → (j : ℕ) → n ≤ j → j < n + size nodes → is_fold (kind_of S.plan j) ≡ false
    no_folds_in done n bound outer num laid j l h = absurd (omega (arith, l, h))
    no_folds_in (node v rest) n bound outer num laid j l h = by (nat_lt n j) refl (no_folds_in rest (n + 1) bound outer num.1 laid.1 j)
      where
        here : n ≡ j → is_fold (kind_of S.plan j) ≡ false
        here same = not_fold (kind_of S.plan j) (λ code k.
            let at_v : kind_of S.plan v.number ≡ Fold code = ap (kind_of S.plan) (num.0 ∙ same) ∙ k in
            let flat : [] ≡ bound ∷ outer = sym (ap bounds (facts.folds v.number code at_v)) ∙ laid.0.reads ∙ ap (λ kd. read_bounds kd (bound ∷ outer)) (sym laid.0.kind ∙ at_v) in cc)

        by : (b : Bool) → nat_lt n j ≡ b → (n + 1 ≤ j → j < n + 1 + size rest → is_fold (kind_of S.plan j) ≡ false) → is_fold (kind_of S.plan j) ≡ false
        by true f later = let m = ltb-true n j f in later (omega (arith, m)) (omega (arith, h))
        by false f later = here (omega (arith, l, ltb-false n j f))
    no_folds_in (block b body rest) n bound outer num laid j l h = by (nat_lt j (n + size body)) refl (no_folds_in body n b (bound ∷ outer) num.0 laid.0 j l) (no_folds_in rest (n + size body) bound outer num.1 laid.1 j)
      where
        by : (c : Bool) → nat_lt j (n + size body) ≡ c → (j < n + size body → is_fold (kind_of S.plan j) ≡ false) → (n + size body ≤ j → j < n + size body + size rest → is_fold (kind_of S.plan j) ≡ false) → is_fold (kind_of S.plan j) ≡ false
        by true f inside after = inside (ltb-true j (n + size body) f)
        by false f inside after = after (ltb-false j (n + size body) f) (omega (arith, h))

    abbrev Part : ℕ → ℕ → List StateLeft
    Part n m = filter (in_part e n m) H.left

    states_now : (nodes : Nodes) (n : ℕ) → IsNumbered n nodes → AreLaid S.plan [] nodes → (states : StateList) → with_left states (filter (in_part e n (n + size nodes)) H.left) ≡ states_in epoch bag nodes states
    states_now done n num laid states = ap (with_left states) (filter_none (in_part e n (n + 0)) H.left (all_everywhere (λ k. in_part e n (n + 0) k ≡ false) (λ k. by k (in_part e n (n + 0) k) refl) H.left))
      where
        by : (k : StateLeft) (b : Bool) → in_part e n (n + 0) k ≡ b → in_part e n (n + 0) k ≡ false
        by k false f = f
        by k true f = let p = part_is e n (n + 0) k f in absurd (omega (arith, p.1, p.2))
    states_now (node v rest) n num laid states =
        let m : n + (1 + size rest) ≡ n + 1 + size rest = omega arith in
        ap (with_left states) (ap (λ x. Part n x) m ∙ parts_split e n (n + 1) (n + 1 + size rest) (omega arith) (omega arith) H.left rises)
        ∙ left_app below (Part n (n + 1)) (Part (n + 1) (n + 1 + size rest)) states
        ∙ ap (λ st. with_left st (Part (n + 1) (n + 1 + size rest))) (ap (with_left states) (one_vertex e n H.left ∙ ap (λ x. filter (is_left_at e x) H.left) (sym num.0)) ∙ left_there v laid.0 v.kind refl states)
        ∙ states_now rest (n + 1) num.1 laid.1 (states_by epoch v v.kind (arrivals (map bag v.sources)) states)
    states_now (block b body rest) n num laid states =
        let m : n + (size body + size rest) ≡ n + size body + size rest = omega arith in
        ap (with_left states) (ap (λ x. Part n x) m ∙ parts_split e n (n + size body) (n + size body + size rest) (omega arith) (omega arith) H.left rises
        ∙ ap (λ l. l ++ Part (n + size body) (n + size body + size rest)) (nothing_left (in_part e n (n + size body)) (λ k t. let p = part_is e n (n + size body) k t in no_folds_in body n b [] num.0 laid.0 k.vertex p.1 p.2)))
        ∙ states_now rest (n + size body) num.1 laid.1 states

    fold_is : (k : Kind) → is_fold k ≡ true → (code : ℕ) × (k ≡ Fold code)
    fold_is Input f = cc
    fold_is (Map code) f = cc
    fold_is Distinct f = cc
    fold_is (Group code) f = cc
    fold_is (Fold code) f = (code, refl)
    fold_is Enter f = cc
    fold_is Feedback f = cc
    fold_is Leave f = cc
    fold_is Output f = cc

    whole_epoch : filter (λ k. k.epoch == e) H.left ≡ filter (in_part e 0 (0 + size (tree_of S.plan))) H.left
    whole_epoch = filter_alike (λ k. k.epoch == e) (in_part e 0 (0 + size (tree_of S.plan))) H.left (all_weaken (λ (k : StateLeft). (is_fold (kind_of S.plan k.vertex) ≡ true) × (origin.first ≤ k.epoch) × (k.epoch < S.next)) (λ k. (k.epoch == e) ≡ in_part e 0 (0 + size (tree_of S.plan)) k)
        (λ k h. from_true (k.epoch == e) (in_part e 0 (0 + size (tree_of S.plan)) k)
        (λ t. let c = fold_is (kind_of S.plan k.vertex) h.0 in let few = facts.few k.vertex c.0 c.1 in is_part e 0 (0 + size (tree_of S.plan)) k (eqb-true k.epoch e t) (omega arith) (omega (arith, few)))
        (λ t. let p = part_is e 0 (0 + size (tree_of S.plan)) k t in ap (λ x. x == e) p.0 ∙ eqb-same below e)) H.left runs.answered.folds_left)

    -- THE STATES AFTER THE EPOCH, told by the history, are those that the batch meaning has with the flow of what was sent
    pub states_after_epoch : IsNumbered 0 (tree_of S.plan) → AreLaid S.plan [] (tree_of S.plan)
        → (epoch_from answers origin H.left (e + 1)).states ≡ states_in (epoch_from answers origin H.left e) (λ v. flow_of S.plan H.sent e v []) (tree_of S.plan) (epoch_from answers origin H.left e).states
    states_after_epoch num laid =
        ap (with_left origin.states) (one_epoch_more e H.left rises) ∙ left_app below (filter (λ k. nat_lt k.epoch e) H.left) (filter (λ k. k.epoch == e) H.left) origin.states
        ∙ ap (with_left epoch.states) whole_epoch ∙ states_now (tree_of S.plan) 0 num laid epoch.states
