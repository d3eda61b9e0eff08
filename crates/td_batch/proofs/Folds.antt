-- The batch meaning of a plan keeps states of its folds alone.
use Rattle.std.proofs.Common.{◌≡◌, ℕ, ◌+◌, ◌==◌, ◌||◌, Bool, true, false, List, [], ◌∷◌, ◌++◌, map, filter, fold, Option, Some, None, refl, ap, sym, ◌∙◌, eq-eqb, subst}
use Rattle.std.specs.Prelude.{◌&&◌, cond}
use Rattle.std.specs.Ordering.{match_ordering}
use Rattle.std.specs.List.{AllByRecursion, list_all, list_any}
use Rattle.std.specs.Map.{remove_entry}
use Rattle.std.specs.BTreeMap.{insert_entry, is_at}
use Rattle.std.specs.declared.cmp.Ordering.{Ordering}
use Rattle.std.specs.declared.cmp.Ordering.TheVariants.{Less, Equal, Greater}
use Rattle.td_stamp.specs.declared.values.Rec.{Rec}
use Rattle.td_stamp.specs.declared.values.Entry.{Entry}
use Rattle.td_stamp.specs.declared.values.State.{State}
use Rattle.td_stamp.specs.declared.values.Arrival.{Arrival}
use Rattle.td_stamp.specs.Orders.{state_key_cmp}
use Rattle.td_stamp.specs.Groups.{groups}
use Rattle.td_stamp.specs.States.{StateList, state_of}
use Rattle.td_plan.specs.declared.vertex.Kind.{Kind}
use Rattle.td_plan.specs.declared.vertex.Kind.TheVariants.{Input, Map, Distinct, Group, Fold, Enter, Feedback, Leave, Output}
use Rattle.td_plan.specs.declared.vertex.Loop.{Loop}
use Rattle.td_plan.specs.Lines.{Vertex, Line}
use Rattle.td_plan.specs.Blocks.{PlacedVertex, vertices}
use Rattle.td_plan.specs.Faults.{is_fold}
use Rattle.td_plan.specs.Tree.{Nodes, tree_of, placed_in, size}
use Rattle.td_plan.specs.Tree.Nodes.{done, node, block}
use Rattle.td_calls.specs.Answers.{Answers}
use Rattle.td_calls.specs.Callbacks.{arrivals, on_notification}
use Rattle.td_batch.specs.Meaning.{EpochInput, with_kept, states_by, states_in, epoch_result, epoch_bags, emitted, run}
use Rattle.td_batch.specs.Folds.{folds_of, are_kept_by}

and-both : (a b : Bool) → a ≡ true → b ≡ true → (a && b) ≡ true
and-both a b d e = ap (λ x. x && b) d ∙ e

and-left : (a b : Bool) → (a && b) ≡ true → a ≡ true
and-left true b e = refl
and-left false b e = e

and-right : (a b : Bool) → (a && b) ≡ true → b ≡ true
and-right true b e = e
and-right false b e = absurd (cc)

or-right : (a b : Bool) → b ≡ true → (a || b) ≡ true
or-right true b e = refl
or-right false b e = e

module _ (kept : ℕ → Bool) where
  -- each state is of a vertex that is kept
  abbrev are : StateList → Bool
  are states = list_all (λ s. kept s.0.0) states

  match-are : (o : Ordering) (less equal greater : StateList) → are less ≡ true → are equal ≡ true → are greater ≡ true → are (match_ordering o less equal greater) ≡ true
  match-are Less less equal greater l e g = l
  match-are Equal less equal greater l e g = e
  match-are Greater less equal greater l e g = g

  insert-are : (states : StateList) (k : ℕ × ℕ) (x : State) → are states ≡ true → kept k.0 ≡ true → are (insert_entry state_key_cmp states k x) ≡ true
  insert-are [] k x h e = and-both (kept k.0) true e refl
  insert-are (s ∷ states) k x h e = match-are (state_key_cmp k s.0) ((k, x) ∷ s ∷ states) ((s.0, x) ∷ states) (s ∷ insert_entry state_key_cmp states k x)
      (and-both (kept k.0) (are (s ∷ states)) e h)
      h
      (and-both (kept s.0.0) (are (insert_entry state_key_cmp states k x)) (and-left (kept s.0.0) (are states) h) (insert-are states k x (and-right (kept s.0.0) (are states) h) e))

  cond-are : (b : Bool) (some others : StateList) → are some ≡ true → are others ≡ true → are (cond b some others) ≡ true
  cond-are true some others s o = s
  cond-are false some others s o = o

  remove-are : (test : ℕ × ℕ → Bool) (states : StateList) → are states ≡ true → are (remove_entry test states) ≡ true
  remove-are test [] h = refl
  remove-are test (s ∷ states) h =
      let rest : are states ≡ true = and-right (kept s.0.0) (are states) h in
      cond-are (test s.0) states (s ∷ remove_entry test states) rest (and-both (kept s.0.0) (are (remove_entry test states)) (and-left (kept s.0.0) (are states) h) (remove-are test states rest))

  with-are : (states : StateList) (v key : ℕ) (x : Option State) → are states ≡ true → kept v ≡ true → are (with_kept states v key x) ≡ true
  with-are states v key None h e = remove-are (is_at (state_key_cmp (v, key))) states h
  with-are states v key (Some x) h e = insert-are states (v, key) x h e

  fold-are : {X : Type 0} (step : StateList → X → StateList) → ((states : StateList) (x : X) → are states ≡ true → are (step states x) ≡ true)
      → (xs : List X) (states : StateList) → are states ≡ true → are (fold step states xs) ≡ true
  fold-are step each [] states h = h
  fold-are step each (x ∷ xs) states h = fold-are step each xs (step states x) (each states x h)

  -- the folds of a tree outside loops are kept
  abbrev FoldsAre : Nodes → Type 0
  FoldsAre done = Unit {0}
  FoldsAre (node v rest) = (is_fold v.kind ≡ true → kept v.number ≡ true) × FoldsAre rest
  FoldsAre (block bound body rest) = FoldsAre rest

  by-are : (epoch : EpochInput) (v : Vertex) (kind : Kind) (arrived : List Arrival) (states : StateList) → (is_fold kind ≡ true → kept v.number ≡ true)
      → are states ≡ true → are (states_by epoch v kind arrived states) ≡ true
  by-are epoch v (Fold code) arrived states f h =
      fold-are (λ left g. with_kept left v.number g.0 (on_notification epoch.answers (Fold code) g.0 (state_of epoch.states v.number g.0) g.1).0)
      (λ left g e. with-are left v.number g.0 (on_notification epoch.answers (Fold code) g.0 (state_of epoch.states v.number g.0) g.1).0 e (f refl)) (groups arrived) states h
  by-are epoch v Input arrived states f h = h
  by-are epoch v (Map code) arrived states f h = h
  by-are epoch v Distinct arrived states f h = h
  by-are epoch v (Group code) arrived states f h = h
  by-are epoch v Enter arrived states f h = h
  by-are epoch v Feedback arrived states f h = h
  by-are epoch v Leave arrived states f h = h
  by-are epoch v Output arrived states f h = h

  in-are : (epoch : EpochInput) (bag : ℕ → List Rec) (nodes : Nodes) (states : StateList) → FoldsAre nodes → are states ≡ true → are (states_in epoch bag nodes states) ≡ true
  in-are epoch bag done states f h = h
  in-are epoch bag (node v rest) states f h =
      in-are epoch bag rest (states_by epoch v v.kind (arrivals (map bag v.sources)) states) f.1 (by-are epoch v v.kind (arrivals (map bag v.sources)) states f.0 h)
  in-are epoch bag (block bound body rest) states f h = in-are epoch bag rest states f h

  run-are : (answers : Answers) (nodes : Nodes) (states : StateList) (batches : List (List Entry)) → FoldsAre nodes → are states ≡ true → are (run answers nodes states batches).states ≡ true
  run-are answers nodes states [] f h = h
  run-are answers nodes states (batch ∷ later) f h =
      let epoch : EpochInput = record { answers = answers; states = states; batch = batch } in
      run-are answers nodes (epoch_result epoch nodes).states later f (in-are epoch (emitted (epoch_bags epoch nodes)) nodes states f h)

  -- as they are where all folds of its vertices are
  tree-are : (loops : List Loop) (n : ℕ) (nodes : Nodes) → AllByRecursion (λ p. is_fold p.vertex.kind ≡ true → kept p.vertex.number ≡ true) (placed_in loops n nodes) → FoldsAre nodes
  tree-are loops n done h = tt
  tree-are loops n (node v rest) h = (h.0, tree-are loops (n + 1) rest h.1)
  tree-are loops n (block bound body rest) h = tree-are loops (n + size body) rest (last (placed_in (record { first = n; bound = bound } ∷ loops) n body) h)
    where
      last : (ps : List PlacedVertex) → AllByRecursion (λ p. is_fold p.vertex.kind ≡ true → kept p.vertex.number ≡ true) (ps ++ placed_in loops (n + size body) rest)
          → AllByRecursion (λ p. is_fold p.vertex.kind ≡ true → kept p.vertex.number ≡ true) (placed_in loops (n + size body) rest)
      last [] h = h
      last (p ∷ ps) h = last ps h.1

-- each fold among some vertices is one of their folds
among : (folds : List ℕ) (ps : List PlacedVertex)
    → ((n : ℕ) → list_any (λ v. v == n) (map (λ p. p.vertex.number) (filter (λ p. is_fold p.vertex.kind) ps)) ≡ true → list_any (λ v. v == n) folds ≡ true)
    → AllByRecursion (λ p. is_fold p.vertex.kind ≡ true → list_any (λ v. v == p.vertex.number) folds ≡ true) ps
among folds [] all = tt
among folds (p ∷ ps) all = (
  λ e. all p.vertex.number (head (is_fold p.vertex.kind) refl e),
  among folds ps (λ n at. all n (tail (is_fold p.vertex.kind) refl n at)),
)
  where
    head : (b : Bool) → b ≡ is_fold p.vertex.kind → b ≡ true → list_any (λ v. v == p.vertex.number) (map (λ q. q.vertex.number) (filter (λ q. is_fold q.vertex.kind) (p ∷ ps))) ≡ true
    head true at e = ap (λ xs. list_any (λ v. v == p.vertex.number) (map (λ q. q.vertex.number) xs)) (ap (λ b. cond b (p ∷ filter (λ q. is_fold q.vertex.kind) ps) (filter (λ q. is_fold q.vertex.kind) ps)) (sym at))
        ∙ ap (λ b. b || list_any (λ v. v == p.vertex.number) (map (λ q. q.vertex.number) (filter (λ q. is_fold q.vertex.kind) ps))) (eq-eqb p.vertex.number p.vertex.number refl)
    head false at e = absurd (cc)

    tail : (b : Bool) → b ≡ is_fold p.vertex.kind → (n : ℕ) → list_any (λ v. v == n) (map (λ q. q.vertex.number) (filter (λ q. is_fold q.vertex.kind) ps)) ≡ true
        → list_any (λ v. v == n) (map (λ q. q.vertex.number) (filter (λ q. is_fold q.vertex.kind) (p ∷ ps))) ≡ true
    tail true at n e = ap (λ xs. list_any (λ v. v == n) (map (λ q. q.vertex.number) xs)) (ap (λ b. cond b (p ∷ filter (λ q. is_fold q.vertex.kind) ps) (filter (λ q. is_fold q.vertex.kind) ps)) (sym at))
        ∙ or-right (p.vertex.number == n) (list_any (λ v. v == n) (map (λ q. q.vertex.number) (filter (λ q. is_fold q.vertex.kind) ps))) e
    tail false at n e = ap (λ xs. list_any (λ v. v == n) (map (λ q. q.vertex.number) xs)) (ap (λ b. cond b (p ∷ filter (λ q. is_fold q.vertex.kind) ps) (filter (λ q. is_fold q.vertex.kind) ps)) (sym at)) ∙ e

-- where the tree has the plan's vertices
pub kept-by-folds : (answers : Answers) (plan : List Line) (states : StateList) (batches : List (List Entry)) → placed_in [] 0 (tree_of plan) ≡ vertices plan
    → are_kept_by (folds_of plan) states ≡ true → are_kept_by (folds_of plan) (run answers (tree_of plan) states batches).states ≡ true
kept-by-folds answers plan states batches all h =
    let own : ℕ → Bool = λ n. list_any (λ v. v == n) (folds_of plan) in
    run-are own answers (tree_of plan) states batches
    (tree-are own [] 0 (tree_of plan)
    (subst (AllByRecursion (λ p. is_fold p.vertex.kind ≡ true → own p.vertex.number ≡ true)) (sym all) (among (folds_of plan) (vertices plan) (λ n e. e))))
    h
