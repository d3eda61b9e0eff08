-- The outputs and states of passed epochs are those of the batch meaning's run from the base.
use Rattle.std.proofs.Common.{◌≡◌, ℕ, ◌+◌, ◌-◌, ◌<◌, ◌≤◌, List, [], ◌∷◌, length, drop, get_or, ap, sym, ◌∙◌, true, arith, suc, zero}
use Rattle.std.proofs.lemmas.List.{length-drop}
use Rattle.td_stamp.specs.declared.values.Entry.{Entry}
use Rattle.td_stamp.specs.States.{StateList}
use Rattle.td_plan.specs.Tree.{Nodes, tree_of, IsNumbered}
use Rattle.td_plan.specs.Placed.{IsPlacedTree}
use Rattle.td_calls.specs.Answers.{Answers}
use Rattle.td_batch.specs.Meaning.{epoch_result, run, states_after}
use Rattle.td_reach.specs.declared.stamp.Stamp.{Stamp}
use Rattle.td_machine.specs.State.{HallState}
use Rattle.td_machine.specs.Active.{active, has_passed}
use Rattle.td_machine.specs.Sound.{Sound}
use Rattle.td_machine.proofs.History.{Origin, History, Invariant}
use Rattle.td_machine.proofs.Flows.{AreLaid}
use Rattle.td_machine.proofs.PlanFacts.{PlanFacts}
use Rattle.td_machine.proofs.Lists.{all_weaken}
use Rattle.td_machine.proofs.Plain.{passed_from}
use Rattle.td_machine.proofs.Cuts.{states_told}
use Rattle.td_machine.proofs.Runs.{states_are, outputs_are}
use Rattle.td_machine.specs.Below.{Below}

module _ (below : Below) where
  -- a run from where another one has come
  outs_on : (answers : Answers) (nodes : Nodes) (k m : ℕ) (batches : List (List Entry)) (states : StateList) → k ≤ length batches
      → get_or (run answers nodes states batches).outs (k + m) [] ≡ get_or (run answers nodes (states_after answers nodes states batches k) (drop k batches)).outs m []
  outs_on answers nodes zero m [] states h = let n : 0 + m ≡ m = omega arith in ap (λ i. get_or [] i []) n
  outs_on answers nodes zero m (batch ∷ later) states h = let n : 0 + m ≡ m = omega arith in ap (λ i. get_or (run answers nodes states (batch ∷ later)).outs i []) n
  outs_on answers nodes (suc k) m [] states h = absurd (omega (arith, h))
  outs_on answers nodes (suc k) m (batch ∷ later) states h =
      let n : suc k + m ≡ suc (k + m) = omega arith in
      ap (λ i. get_or (run answers nodes states (batch ∷ later)).outs i []) n
      ∙ outs_on answers nodes k m later (epoch_result (record { answers = answers; states = states; batch = batch }) nodes).states (omega (arith, h))

  states_on : (answers : Answers) (nodes : Nodes) (k m : ℕ) (batches : List (List Entry)) (states : StateList) → k ≤ length batches
      → states_after answers nodes states batches (k + m) ≡ states_after answers nodes (states_after answers nodes states batches k) (drop k batches) m
  states_on answers nodes zero m [] states h = let n : 0 + m ≡ m = omega arith in ap (states_after answers nodes states []) n
  states_on answers nodes zero m (batch ∷ later) states h = let n : 0 + m ≡ m = omega arith in ap (states_after answers nodes states (batch ∷ later)) n
  states_on answers nodes (suc k) m [] states h = absurd (omega (arith, h))
  states_on answers nodes (suc k) m (batch ∷ later) states h =
      let n : suc k + m ≡ suc (k + m) = omega arith in
      ap (states_after answers nodes states (batch ∷ later)) n
      ∙ states_on answers nodes k m later (epoch_result (record { answers = answers; states = states; batch = batch }) nodes).states (omega (arith, h))

  module _ (answers : Answers) (origin : Origin) (S : HallState) (H : History) (facts : PlanFacts S.plan) (numbered : IsNumbered 0 (tree_of S.plan)) (laid : AreLaid S.plan [] (tree_of S.plan)) (placed : IsPlacedTree (tree_of S.plan)) (inv : Invariant answers origin S H) where
    base_passed : has_passed S S.base ≡ true
    base_passed = passed_from below answers origin S H S.base (all_weaken (λ (p : Stamp). (S.base < p.time.epoch) × (S.collected < p.time.epoch)) (λ p. S.base < p.time.epoch) (λ p k. k.0) (active S) inv.running.later)

    -- how many batches came before the base, or at it
    abbrev before : ℕ
    before = S.base + 1 - origin.first

    few : before ≤ length origin.batches
    few = omega (arith, inv.stands.base.0, inv.stands.base.1, inv.stands.next)

    low : S.base ≤ S.base
    low = omega arith

    base_is : S.base_states ≡ states_after answers (tree_of S.plan) origin.states origin.batches before
    base_is = inv.running.told.base_states ∙ sym (states_told below answers origin S H S.base low inv.stands.base.1 base_passed inv S.base low)
        ∙ states_are below answers origin S H facts numbered laid placed inv S.base low inv.stands.base.1 base_passed

    pub is_sound : Sound answers S
    is_sound = record {
      released = let n = ap length inv.stands.batches ∙ length-drop before origin.batches in omega (arith, n, few, inv.stands.base.0, inv.stands.next);
      outputs = λ e past new high p.
          let m : ℕ = e - S.base - 1 in
          let at : e - origin.first ≡ before + m = omega (arith, past, inv.stands.base.0) in
          outputs_are below answers origin S H facts numbered laid placed inv e new high p
          ∙ ap (λ n. get_or (run answers (tree_of S.plan) origin.states origin.batches).outs n []) at
          ∙ outs_on answers (tree_of S.plan) before m origin.batches origin.states few
          ∙ (λ i. get_or (run answers (tree_of S.plan) (sym base_is i) (sym inv.stands.batches i)).outs m []);
      states = λ e past high p.
          let m : ℕ = e - S.base in
          let at : e + 1 - origin.first ≡ before + m = omega (arith, past, inv.stands.base.0) in
          states_are below answers origin S H facts numbered laid placed inv e past high p
          ∙ ap (states_after answers (tree_of S.plan) origin.states origin.batches) at
          ∙ states_on answers (tree_of S.plan) before m origin.batches origin.states few
          ∙ (λ i. states_after answers (tree_of S.plan) (sym base_is i) (sym inv.stands.batches i) m);
    }
