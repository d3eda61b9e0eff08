-- A hall that runs one epoch after another: what a release, a drain and a collect come to, and what a cut keeps.
use Rattle.std.proofs.Common.{◌≡◌, ℕ, ◌+◌, ◌-◌, ◌<◌, true, List, [], ◌∷◌, ◌++◌, map, filter, length, get_or, cond, None, Result, Ok, Err, OnOk, IfErr, IsErrAnd, refl, ap, sym, ◌∙◌, subst, arith, append-nil, length-append}
use Rattle.std.specs.Prelude.{flat_map}
use Rattle.std.proofs.lemmas.List.{get_or-append-add}
use Rattle.td_stamp.specs.declared.values.Entry.{Entry}
use Rattle.td_stamp.specs.declared.values.Output.{Output}
use Rattle.td_stamp.specs.declared.epoch_out.EpochOut.{EpochOut}
use Rattle.td_stamp.specs.States.{StateList}
use Rattle.td_plan.specs.Lines.{Line as PlanLine}
use Rattle.td_plan.specs.Tree.{Nodes, tree_of}
use Rattle.td_calls.specs.Answers.{Answers}
use Rattle.td_batch.specs.Flow.{numbers_from}
use Rattle.td_batch.specs.Meaning.{RunResult, run}
use Rattle.td_machine.specs.State.{HallState}
use Rattle.td_machine.specs.Active.{has_passed, unpassed}
use Rattle.td_machine.specs.Sound.{run_of}
use Rattle.td_machine.specs.Steps.{Answer, opened, with_batch, outputs_at, to_collect, collected_to, collect_step}
use Rattle.td_machine.specs.Steps.Answer.{has_collected}
use Rattle.td_core.specs.Drained.{IsKept}
use Rattle.td_core.specs.Meant.{IsMeant}
use Rattle.td_console.specs.declared.faults.Fault.{Fault}
use Rattle.td_console.specs.Answer.{output_line, output_text}
use Rattle.td_console.specs.EpochByEpoch.{IsBetween, epoch_after, IsRunOn}
use Rattle.td_console.proofs.MoreEpochs.{length-outs}

-- a hall that is opened
pub opened_between : (plan : List PlanLine) (workers : ℕ) (T : HallState) → T ≡ opened plan [] 1 workers → IsBetween T
opened_between plan workers T e = subst IsBetween (sym e) record { opened = refl; none_out = refl; collected = refl; released = refl; passed = refl }

-- what holds at any answer
pub always : {V E P : Type 0} (r : Result V E) → P → OnOk r P
always (Ok v) p = p
always (Err e) p = tt

-- a refusal that is handed on
pub handed_on : {V : Type 0} (P : Fault → Type 0) (e : Fault) (r : Result V Fault) → IsErrAnd r (λ f. f ≡ e) → P e → IfErr r P
handed_on P e (Ok v) h p = tt
handed_on P e (Err f) h p = subst P (sym h) p

-- ONE EPOCH: S is between epochs, D is drained after the release of a batch, and T is what a collect leaves
module _ (answers : Answers) (S : HallState) (batch : List Entry) (between : IsBetween S) (D : HallState) (kept : IsKept (with_batch S batch) D)
    (joins_states : (nodes : Nodes) (states : StateList) (x y : List (List Entry)) → (run answers nodes states (x ++ y)).states ≡ (run answers nodes (run answers nodes states x).states y).states)
    (joins_outs : (nodes : Nodes) (states : StateList) (x y : List (List Entry)) → (run answers nodes states (x ++ y)).outs ≡ (run answers nodes states x).outs ++ (run answers nodes (run answers nodes states x).states y).outs)
    (out : D.out ≡ []) (passed : (e : ℕ) → e < D.next → has_passed D e ≡ true) (none : unpassed D ≡ None) where
  same_run : run_of answers D ≡ run answers (tree_of S.plan) S.base_states (S.batches ++ batch ∷ [])
  same_run = λ i. run answers (tree_of (kept.plan i)) (kept.base_states i) (kept.batches i)

  states_are : (run_of answers D).states ≡ (epoch_after answers S batch).states
  states_are = ap (λ (r : RunResult). r.states) same_run ∙ joins_states (tree_of S.plan) S.base_states S.batches (batch ∷ [])

  outs_are : (run_of answers D).outs ≡ (run_of answers S).outs ++ (epoch_after answers S batch).outs ∷ []
  outs_are = ap (λ (r : RunResult). r.outs) same_run ∙ joins_outs (tree_of S.plan) S.base_states S.batches (batch ∷ [])

  at : D.collected + 1 ≡ S.next
  at = omega (arith, kept.collected, between.collected)

  count : D.next - (D.collected + 1) ≡ 1
  count = omega (arith, kept.next, kept.collected, between.collected)

  one : to_collect D ≡ S.next ∷ []
  one =
      (λ i. filter (has_passed D) (numbers_from (at i) (count i)))
      ∙ ap (λ b. cond b (S.next ∷ []) []) (passed S.next (omega (arith, kept.next)))

  abbrev out_at : ℕ → EpochOut
  out_at e = record { epoch = e; recs = outputs_at D e }

  recs_are : (outs : List EpochOut) → outs ≡ out_at S.next ∷ [] → IsMeant answers D outs → outputs_at D S.next ≡ (epoch_after answers S batch).outs
  recs_are outs is meant =
      let after : D.base < S.next = omega (arith, kept.base, between.released) in
      let sizes : length (run_of answers S).outs ≡ length S.batches = length-outs answers (tree_of S.plan) S.base_states S.batches in
      let place : S.next - D.base - 1 ≡ length (run_of answers S).outs + 0 = omega (arith, kept.base, between.released, sizes) in
      (subst (IsMeant answers D) is meant).0 after
      ∙ (λ i. get_or (outs_are i) (place i) [])
      ∙ get_or-append-add (run_of answers S).outs ((epoch_after answers S batch).outs ∷ []) 0 []

  outs_of : {xs ys : List EpochOut} → has_collected xs ≡ has_collected ys → xs ≡ ys
  outs_of e = cc

  -- what was collected
  pub came : (outs : List EpochOut) (T : HallState) → collect_step D ≡ (has_collected outs, T) → IsMeant answers D outs
      → outs ≡ record { epoch = S.next; recs = (epoch_after answers S batch).outs } ∷ []
  came outs T step meant =
      let is : outs ≡ out_at S.next ∷ [] = outs_of (ap (λ (p : Answer × HallState). p.0) (sym step)) ∙ ap (map out_at) one in
      let recs = recs_are outs is meant in
      is ∙ (λ i. record { epoch = S.next; recs = recs i } ∷ [])

  between_then : (k : ℕ) → k + 1 ≡ D.next → IsBetween (collected_to D k)
  between_then k at_end = record {
    opened = kept.closed ∙ between.opened;
    none_out = out;
    collected = at_end;
    released = omega (arith, kept.base, kept.next, between.released, ap length kept.batches, length-append S.batches (batch ∷ []));
    passed = none;
  }

  -- and what is left
  pub run_on : (outs : List EpochOut) (T : HallState) → collect_step D ≡ (has_collected outs, T) → IsRunOn answers S batch T
  run_on outs T step =
      let k = D.collected + length (to_collect D) in
      let end : k + 1 ≡ D.next = omega (arith, ap length one, kept.next, kept.collected, between.collected) in
      subst (IsRunOn answers S batch) (ap (λ (p : Answer × HallState). p.1) step) record {
        between = between_then k end;
        plan = kept.plan;
        next = kept.next;
        states = states_are;
      }

-- the lines of one epoch
pub one_text : (n : ℕ) (recs : List Output) (outs : List EpochOut) → outs ≡ record { epoch = n; recs = recs } ∷ [] → output_text outs ≡ flat_map (output_line n) recs
one_text n recs outs e = ap output_text e ∙ append-nil (flat_map (output_line n) recs)
