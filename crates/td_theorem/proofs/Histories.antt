-- Histories: their lengths, and the epochs and outputs that they have, also where more follows.
use Rattle.std.proofs.Common.{◌≡◌, ℕ, zero, suc, ◌+◌, ◌-◌, ◌≤◌, List, [], ◌∷◌, ◌++◌, length, take, drop, refl, sym, ap, ◌∙◌, subst, arith}
use Rattle.std.specs.Prelude.{All, Contains}
use Rattle.std.proofs.lemmas.List.{append_assoc, length-append, length-map, map-append, take-append-drop, take-append-le}
use Rattle.std.proofs.lemmas.List.Elements.{All-weaker, All-contains_itself, Contains-append_left, Contains-append_right}
use Rattle.std.proofs.Math.Seq.{take-append_seam, drop-append_seam, take-append-add}
use Rattle.td_stamp.specs.declared.values.Entry.{Entry}
use Rattle.td_stamp.specs.declared.values.Output.{Output}
use Rattle.td_stamp.specs.declared.epoch_out.EpochOut.{EpochOut}
use Rattle.td_stamp.specs.States.{StateList}
use Rattle.td_plan.specs.Lines.{Line}
use Rattle.td_plan.specs.Tree.{Nodes, tree_of}
use Rattle.td_calls.specs.Answers.{Answers}
use Rattle.td_batch.specs.Meaning.{run, epoch_result, states_after, numbered}
use Rattle.td_journal.specs.declared.payload.Submitted.{Submitted}
use Rattle.td_store.specs.standing.Standing.{Standing, last_epoch, batches_of}
use Rattle.td_store.specs.standing.Stops.{Begins, Stands}
use Rattle.td_store.specs.standing.Advanced.{states_by}
use Rattle.td_keeper.specs.Acknowledged.{Epoch, epochs_from, epochs_of, outs_of}

-- the laws of runs after one another, as they are handed in
abbrev pub StatesJoin : Answers → Type 0
StatesJoin answers = (nodes : Nodes) (states : StateList) (x y : List (List Entry))
    → (run answers nodes states (x ++ y)).states ≡ (run answers nodes (run answers nodes states x).states y).states

abbrev pub OutsJoin : Answers → Type 0
OutsJoin answers = (nodes : Nodes) (states : StateList) (x y : List (List Entry))
    → (run answers nodes states (x ++ y)).outs ≡ (run answers nodes states x).outs ++ (run answers nodes (run answers nodes states x).states y).outs

-- a history has as many epochs as what stands for it
pub count_of : (comes : StateList → List (List Entry) → StateList) (s : Standing) (history : List Submitted) → Stands comes s history → length history ≡ last_epoch s
count_of comes s history stands =
    let whole = ap length stands.whole in
    let n = length-append stands.before s.submitted in
    omega (arith, whole, n, stands.epochs)

-- of two beginnings of one list the longer begins with the other
pub longer : (a b c d : List Submitted) → a ++ b ≡ c ++ d → length a ≤ length c → Begins a c
longer a b c d same long = (
  drop (length a) c,
  sym (take-append-drop (length a) c)
      ∙ ap (λ (l : List Submitted). l ++ drop (length a) c) (sym (take-append-le (length a) c d long) ∙ (ap (take (length a)) (sym same) ∙ take-append_seam a b)),
)

-- batches as epochs, and then others
epochs_on : (n : ℕ) (xs ys : List Submitted) → epochs_from n (xs ++ ys) ≡ epochs_from n xs ++ epochs_from (n + length xs) ys
epochs_on n [] ys = let is : n ≡ n + 0 = omega arith in ap (λ m. epochs_from m ys) is
epochs_on n (x ∷ xs) ys =
    let is : n + 1 + length xs ≡ n + length (x ∷ xs) = omega arith in
    ap (λ (l : List Epoch). record { number = n; submitted = x } ∷ l) (epochs_on (n + 1) xs ys ∙ ap (λ m. epochs_from (n + 1) xs ++ epochs_from m ys) is)

-- AN EPOCH OF A HISTORY is one still where more follows
pub epoch_still : (history more : List Submitted) (e : Epoch) → Contains (epochs_of history) e → Contains (epochs_of (history ++ more)) e
epoch_still history more e there =
    subst (λ (l : List Epoch). Contains l e) (sym (epochs_on 1 history more)) (Contains-append_left (epochs_of history) (epochs_from (1 + length history) more) e there)

-- numbered outputs, and then others
pub numbered-append : (n : ℕ) (xs ys : List (List Output)) → numbered n (xs ++ ys) ≡ numbered n xs ++ numbered (n + length xs) ys
numbered-append n [] ys = let is : n ≡ n + 0 = omega arith in ap (λ m. numbered m ys) is
numbered-append n (x ∷ xs) ys =
    let is : n + 1 + length xs ≡ n + length (x ∷ xs) = omega arith in
    λ i. record { epoch = n; recs = x } ∷ (numbered-append (n + 1) xs ys ∙ ap (λ m. numbered (n + 1) xs ++ numbered m ys) is) i

length-numbered : (n : ℕ) (xs : List (List Output)) → length (numbered n xs) ≡ length xs
length-numbered n [] = refl
length-numbered n (x ∷ xs) = ap suc (length-numbered (n + 1) xs)

-- the first of them
pub take-numbered : (k n : ℕ) (xs : List (List Output)) → take k (numbered n xs) ≡ numbered n (take k xs)
take-numbered zero n xs = refl
take-numbered (suc k) n [] = refl
take-numbered (suc k) n (x ∷ xs) = ap (λ (l : List EpochOut). record { epoch = n; recs = x } ∷ l) (take-numbered k (n + 1) xs)

-- and each of those is among them
pub among_numbered : (k n : ℕ) (xs : List (List Output)) → All (Contains (numbered n xs)) (numbered n (take k xs))
among_numbered k n xs =
    let before = numbered n (take k xs) in
    let after = numbered (n + length (take k xs)) (drop k xs) in
    let whole : numbered n xs ≡ before ++ after = ap (numbered n) (sym (take-append-drop k xs)) ∙ numbered-append n (take k xs) (drop k xs) in
    subst (λ (l : List EpochOut). All (Contains l) before) (sym whole)
    (All-weaker (Contains before) (Contains (before ++ after)) (Contains-append_left before after) before (All-contains_itself before))

module _ (answers : Answers) (nodes : Nodes) where
  pub length_outs : (states : StateList) (batches : List (List Entry)) → length (run answers nodes states batches).outs ≡ length batches
  length_outs states [] = refl
  length_outs states (batch ∷ later) = ap suc (length_outs (epoch_result (record { answers = answers; states = states; batch = batch }) nodes).states later)

module _ (answers : Answers) (plan : List Line) where
  -- the outputs of batches from some states on, epoch by epoch
  abbrev pub outs : StateList → List Submitted → List (List Output)
  outs states x = (run answers (tree_of plan) states (batches_of x)).outs

  pub count : (states : StateList) (x : List Submitted) → length (outs states x) ≡ length x
  count states x = length_outs answers (tree_of plan) states (batches_of x) ∙ length-map x (λ s. s.batch)

module _ (answers : Answers) (states_join : StatesJoin answers) (outs_join : OutsJoin answers) (plan : List Line) where
  -- later ones come after them
  pub outs_on : (states : StateList) (x y : List Submitted) → outs answers plan states (x ++ y) ≡ outs answers plan states x ++ outs answers plan (states_by answers plan states (batches_of x)) y
  outs_on states x y =
      ap (λ (l : List (List Entry)). (run answers (tree_of plan) states l).outs) (map-append (λ s. s.batch) x y)
      ∙ outs_join (tree_of plan) states (batches_of x) (batches_of y)

  -- AN OUTPUT OF A HISTORY is one still where more follows
  pub out_still : (history more : List Submitted) (out : EpochOut) → Contains (outs_of answers plan history) out → Contains (outs_of answers plan (history ++ more)) out
  out_still history more out there =
      let later = outs answers plan (states_by answers plan [] (batches_of history)) more in
      subst (λ (l : List EpochOut). Contains l out) (sym (ap (numbered 1) (outs_on [] history more) ∙ numbered-append 1 (outs answers plan [] history) later))
      (Contains-append_left (numbered 1 (outs answers plan [] history)) (numbered (1 + length (outs answers plan [] history)) later) out there)

  module _ (s : Standing) (history : List Submitted) (stands : Stands (states_by answers plan) s history) (more : List Submitted) where
    -- what a history has, with more after it, is what it had up to the checkpoint, and then the rest
    whole : history ++ more ≡ stands.before ++ (s.submitted ++ more)
    whole = ap (λ (l : List Submitted). l ++ more) stands.whole ∙ append_assoc stands.before s.submitted more

    pub rest_of : outs_of answers plan (history ++ more) ≡ numbered 1 (outs answers plan [] stands.before) ++ numbered (s.epoch + 1) (outs answers plan s.states (s.submitted ++ more))
    rest_of =
        let many = count answers plan [] stands.before in
        let first : 1 + length (outs answers plan [] stands.before) ≡ s.epoch + 1 = omega (arith, many, stands.epochs) in
        ap (outs_of answers plan) whole
        ∙ (ap (numbered 1) (outs_on [] stands.before (s.submitted ++ more))
        ∙ (numbered-append 1 (outs answers plan [] stands.before) (outs answers plan (states_by answers plan [] (batches_of stands.before)) (s.submitted ++ more))
        ∙ (ap (λ (b : StateList). numbered 1 (outs answers plan [] stands.before) ++ numbered (1 + length (outs answers plan [] stands.before)) (outs answers plan b (s.submitted ++ more))) (sym stands.states)
        ∙ ap (λ (n : ℕ). numbered 1 (outs answers plan [] stands.before) ++ numbered n (outs answers plan s.states (s.submitted ++ more))) first)))

    -- so those of the epochs after the checkpoint are the rest
    pub after_checkpoint : drop s.epoch (outs_of answers plan (history ++ more)) ≡ numbered (s.epoch + 1) (outs answers plan s.states (s.submitted ++ more))
    after_checkpoint =
        let before = numbered 1 (outs answers plan [] stands.before) in
        let many = count answers plan [] stands.before in
        let same = length-numbered 1 (outs answers plan [] stands.before) in
        let place : s.epoch ≡ length before = omega (arith, many, same, stands.epochs) in
        ap (drop s.epoch) rest_of
        ∙ (ap (λ (n : ℕ). drop n (before ++ numbered (s.epoch + 1) (outs answers plan s.states (s.submitted ++ more)))) place
        ∙ drop-append_seam before (numbered (s.epoch + 1) (outs answers plan s.states (s.submitted ++ more))))

    -- and each of them is the history's
    pub rest_among : (k : ℕ) → All (Contains (outs_of answers plan (history ++ more))) (numbered (s.epoch + 1) (take k (outs answers plan s.states (s.submitted ++ more))))
    rest_among k =
        let before = numbered 1 (outs answers plan [] stands.before) in
        let after = numbered (s.epoch + 1) (outs answers plan s.states (s.submitted ++ more)) in
        subst (λ (l : List EpochOut). All (Contains l) (numbered (s.epoch + 1) (take k (outs answers plan s.states (s.submitted ++ more))))) (sym rest_of)
        (All-weaker (Contains after) (Contains (before ++ after)) (Contains-append_right before after) (numbered (s.epoch + 1) (take k (outs answers plan s.states (s.submitted ++ more))))
        (among_numbered k (s.epoch + 1) (outs answers plan s.states (s.submitted ++ more))))

    -- the states after an epoch of the rest
    pub states_in_rest : (e : ℕ) → s.epoch ≤ e
        → states_after answers (tree_of plan) s.states (batches_of (s.submitted ++ more)) (e - s.epoch) ≡ states_after answers (tree_of plan) [] (batches_of (history ++ more)) e
    states_in_rest e from =
        let k = e - s.epoch in
        let many = length-map stands.before (λ (x : Submitted). x.batch) in
        let place : length (batches_of stands.before) + k ≡ e = omega (arith, many, stands.epochs, from) in
        ap (λ (b : StateList). (run answers (tree_of plan) b (take k (batches_of (s.submitted ++ more)))).states) stands.states
        ∙ (sym (states_join (tree_of plan) [] (batches_of stands.before) (take k (batches_of (s.submitted ++ more))))
        ∙ (ap (λ (l : List (List Entry)). (run answers (tree_of plan) [] l).states) (sym (take-append-add (batches_of stands.before) (batches_of (s.submitted ++ more)) k))
        ∙ (ap (λ (l : List (List Entry)). states_after answers (tree_of plan) [] l (length (batches_of stands.before) + k)) (sym (ap batches_of whole ∙ map-append (λ (x : Submitted). x.batch) stands.before (s.submitted ++ more)))
        ∙ ap (states_after answers (tree_of plan) [] (batches_of (history ++ more))) place)))
