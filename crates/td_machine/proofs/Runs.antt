-- The states of passed epochs are those of the batch meaning's run.
use Rattle.std.proofs.Common.{◌≡◌, ℕ, ◌+◌, ◌-◌, ◌<◌, ◌≤◌, List, [], ◌∷◌, ◌++◌, filter, take, length, get_or, refl, ap, sym, ◌∙◌, Bool, true, false, arith, suc, zero}
use Rattle.std.specs.Prelude.{nat_lt, nat_le}
use Rattle.std.proofs.lemmas.Bool.{ltb-true, ltb-false, le-ltb, le-leb, lt-leb}
use Rattle.td_stamp.specs.declared.values.Entry.{Entry}
use Rattle.td_stamp.specs.States.{StateList}
use Rattle.td_plan.specs.Tree.{Nodes, tree_of, IsNumbered}
use Rattle.td_machine.specs.Steps.{outputs_at}
use Rattle.td_machine.proofs.OutputsNow.{outputs_now}
use Rattle.td_plan.specs.Placed.{IsPlacedTree}
use Rattle.td_calls.specs.Answers.{Answers}
use Rattle.td_batch.specs.Meaning.{EpochResult, epoch_result, result_of, run, states_after}
use Rattle.td_machine.specs.declared.records.StateLeft.{StateLeft}
use Rattle.td_machine.specs.State.{HallState, with_left, states_at}
use Rattle.td_machine.specs.Active.{kind_of, has_passed}
use Rattle.td_plan.specs.Faults.{is_fold}
use Rattle.td_machine.proofs.History.{Origin, History, Running, Invariant, epoch_from}
use Rattle.td_machine.proofs.Flows.{flow_of, AreLaid}
use Rattle.td_machine.proofs.PlanFacts.{PlanFacts}
use Rattle.td_machine.proofs.Lists.{filter_none, filter_alike, all_weaken, all_everywhere}
use Rattle.td_machine.proofs.Plain.{passed_all, passed_before}
use Rattle.td_machine.proofs.Cuts.{states_told}
use Rattle.td_machine.proofs.Solved.{passed_solves}
use Rattle.td_machine.proofs.StatesNow.{states_after_epoch}
use Rattle.td_machine.specs.Below.{Below}

module _ (below : Below) where
  take_more : {X : Type 0} (m : ℕ) (xs : List X) (d : X) → m < length xs → take (suc m) xs ≡ take m xs ++ get_or xs m d ∷ []
  take_more m [] d h = absurd (omega (arith, h))
  take_more zero (x ∷ xs) d h = refl
  take_more (suc m) (x ∷ xs) d h = ap (λ l. x ∷ l) (take_more m xs d (omega (arith, h)))

  up_to_below : (e : ℕ) (left : List StateLeft) → filter (λ k. nat_le k.epoch e) left ≡ filter (λ k. nat_lt k.epoch (e + 1)) left
  up_to_below e left = filter_alike (λ k. nat_le k.epoch e) (λ k. nat_lt k.epoch (e + 1)) left (all_everywhere (λ k. nat_le k.epoch e ≡ nat_lt k.epoch (e + 1)) (λ k. by k.epoch (nat_lt k.epoch (e + 1)) refl) left)
    where
      by : (k : ℕ) (b : Bool) → nat_lt k (e + 1) ≡ b → nat_le k e ≡ nat_lt k (e + 1)
      by k true f = le-leb k e (let l = ltb-true k (e + 1) f in omega (arith, l)) ∙ sym f
      by k false f = lt-leb k e (let l = ltb-false k (e + 1) f in omega (arith, l)) ∙ sym f

  -- runs after one another
  pub states-append : (answers : Answers) (nodes : Nodes) (states : StateList) (x y : List (List Entry)) → (run answers nodes states (x ++ y)).states ≡ (run answers nodes (run answers nodes states x).states y).states
  states-append answers nodes states [] y = refl
  states-append answers nodes states (batch ∷ x) y = states-append answers nodes (epoch_result (record { answers = answers; states = states; batch = batch }) nodes).states x y

  pub outs-append : (answers : Answers) (nodes : Nodes) (states : StateList) (x y : List (List Entry))
      → (run answers nodes states (x ++ y)).outs ≡ (run answers nodes states x).outs ++ (run answers nodes (run answers nodes states x).states y).outs
  outs-append answers nodes states [] y = refl
  outs-append answers nodes states (batch ∷ x) y =
      let first = epoch_result (record { answers = answers; states = states; batch = batch }) nodes in
      ap (λ later. first.outs ∷ later) (outs-append answers nodes first.states x y)

  -- the outputs of a run by the number of the epoch
  run_out : (answers : Answers) (nodes : Nodes) (batches : List (List Entry)) (states : StateList) (m : ℕ) → m < length batches
      → get_or (run answers nodes states batches).outs m [] ≡ (epoch_result (record { answers = answers; states = states_after answers nodes states batches m; batch = get_or batches m [] }) nodes).outs
  run_out answers nodes [] states m h = absurd (omega (arith, h))
  run_out answers nodes (batch ∷ later) states zero h = refl
  run_out answers nodes (batch ∷ later) states (suc m) h = run_out answers nodes later (epoch_result (record { answers = answers; states = states; batch = batch }) nodes).states m (omega (arith, h))

  module _ (answers : Answers) (origin : Origin) (S : HallState) (H : History) (facts : PlanFacts S.plan) (numbered : IsNumbered 0 (tree_of S.plan)) (laid : AreLaid S.plan [] (tree_of S.plan)) (placed : IsPlacedTree (tree_of S.plan)) (inv : Invariant answers origin S H) where
    abbrev runs : Running answers origin S H
    runs = inv.running

    -- of a passed epoch, the batch meaning gives what was sent
    pub batch_is : (e : ℕ) → origin.first ≤ e → e < S.next → has_passed S e ≡ true → epoch_result (epoch_from answers origin H.left e) (tree_of S.plan) ≡ result_of (epoch_from answers origin H.left e) (tree_of S.plan) (λ v. flow_of S.plan H.sent e v [])
    batch_is e low high p = below.one_meaning (epoch_from answers origin H.left e) (tree_of S.plan) (flow_of S.plan H.sent e) placed (passed_solves below answers origin S H inv.running e low high (passed_all below answers origin S H e p) (tree_of S.plan) [] laid)

    next_states : (e : ℕ) → origin.first ≤ e → e < S.next → has_passed S e ≡ true → (epoch_from answers origin H.left (e + 1)).states ≡ (epoch_result (epoch_from answers origin H.left e) (tree_of S.plan)).states
    next_states e low high p = states_after_epoch below answers origin S H facts inv.running e low high (passed_all below answers origin S H e p) numbered laid ∙ sym (ap (λ (r : EpochResult). r.states) (batch_is e low high p))

    first_states : (epoch_from answers origin H.left origin.first).states ≡ origin.states
    first_states = ap (with_left origin.states) (filter_none (λ k. nat_lt k.epoch origin.first) H.left (all_weaken (λ (k : StateLeft). (is_fold (kind_of S.plan k.vertex) ≡ true) × (origin.first ≤ k.epoch) × (k.epoch < S.next)) (λ k. nat_lt k.epoch origin.first ≡ false)
        (λ k h. le-ltb k.epoch origin.first h.1) H.left inv.running.answered.folds_left))

    -- the states after so many epochs
    pub run_states : (m : ℕ) → origin.first + m ≤ S.next → ((e : ℕ) → origin.first ≤ e → e < origin.first + m → has_passed S e ≡ true) → (epoch_from answers origin H.left (origin.first + m)).states ≡ states_after answers (tree_of S.plan) origin.states origin.batches m
    run_states zero l p = (let z : origin.first + 0 ≡ origin.first = omega arith in ap (λ n. (epoch_from answers origin H.left n).states) z) ∙ first_states
    run_states (suc m) l p =
        let e : ℕ = origin.first + m in
        let nodes = tree_of S.plan in
        let before = run_states m (omega (arith, l)) (λ d a b. p d a (omega (arith, b))) in
        let step : origin.first + suc m ≡ e + 1 = omega arith in
        let batch : List Entry = get_or origin.batches m [] in
        let index : origin.first + m - origin.first ≡ m = omega arith in
        ap (λ n. (epoch_from answers origin H.left n).states) step ∙ next_states e (omega arith) (omega (arith, l)) (p e (omega arith) (omega arith))
        ∙ (λ i. (epoch_result (record { answers = answers; states = before i; batch = get_or origin.batches (index i) [] }) nodes).states)
        ∙ sym (states-append answers nodes origin.states (take m origin.batches) (batch ∷ []))
        ∙ ap (λ l. (run answers nodes origin.states l).states) (sym (take_more m origin.batches [] (omega (arith, l, inv.stands.next))))

    -- THE STATES AT A PASSED EPOCH are those of the run up to it: what a cut answers
    pub states_are : (e : ℕ) → S.base ≤ e → e < S.next → has_passed S e ≡ true → states_at S e ≡ states_after answers (tree_of S.plan) origin.states origin.batches (e + 1 - origin.first)
    states_are e low high p =
        let m : ℕ = e + 1 - origin.first in
        let at : origin.first + m ≡ e + 1 = omega (arith, low, inv.stands.base.0) in
        states_told below answers origin S H e low high p inv e low ∙ ap (with_left origin.states) (up_to_below e H.left)
        ∙ ap (λ n. (epoch_from answers origin H.left n).states) (sym at)
        ∙ run_states m (omega (arith, at, high)) (λ d a b. passed_before below answers origin S H d e (omega (arith, b, at)) p)

    -- THE OUTPUTS OF A PASSED EPOCH that were not collected are those of the run: what a collect answers
    pub outputs_are : (e : ℕ) → S.collected < e → e < S.next → has_passed S e ≡ true → outputs_at S e ≡ get_or (run answers (tree_of S.plan) origin.states origin.batches).outs (e - origin.first) []
    outputs_are e new high p =
        let m : ℕ = e - origin.first in
        let low : origin.first ≤ e = omega (arith, new, inv.stands.collected.0) in
        let at : origin.first + m ≡ e = omega (arith, low) in
        let nodes = tree_of S.plan in
        outputs_now below answers origin S H facts inv.running e low high (passed_all below answers origin S H e p) numbered laid new
        ∙ sym (ap (λ (r : EpochResult). r.outs) (batch_is e low high p))
        ∙ (λ i. (epoch_result (record { answers = answers; states = (ap (λ n. (epoch_from answers origin H.left n).states) (sym at) ∙ run_states m (omega (arith, at, high)) (λ d a b. passed_before below answers origin S H d e (omega (arith, b, at)) p)) i; batch = get_or origin.batches (e - origin.first) [] }) nodes).outs)
        ∙ sym (run_out answers nodes origin.batches origin.states m (omega (arith, at, high, inv.stands.next)))
