-- A run of two lists of batches is the run of the second from where the first ends.
use Rattle.std.proofs.Common.{◌≡◌, List, [], ◌∷◌, ◌++◌, refl, ap}
use Rattle.td_stamp.specs.declared.values.Entry.{Entry}
use Rattle.td_stamp.specs.States.{StateList}
use Rattle.td_plan.specs.Tree.{Nodes}
use Rattle.td_calls.specs.Answers.{Answers}
use Rattle.td_batch.specs.Meaning.{EpochResult, epoch_result, run}

module _ (answers : Answers) (nodes : Nodes) where
  -- what the first batch gives
  abbrev first : StateList → List Entry → EpochResult
  first states batch = epoch_result (record { answers = answers; states = states; batch = batch }) nodes

  pub states-append : (states : StateList) (x y : List (List Entry)) → (run answers nodes states (x ++ y)).states ≡ (run answers nodes (run answers nodes states x).states y).states
  states-append states [] y = refl
  states-append states (batch ∷ x) y = states-append (first states batch).states x y

  pub outs-append : (states : StateList) (x y : List (List Entry))
      → (run answers nodes states (x ++ y)).outs ≡ (run answers nodes states x).outs ++ (run answers nodes (run answers nodes states x).states y).outs
  outs-append states [] y = refl
  outs-append states (batch ∷ x) y = ap (λ later. (first states batch).outs ∷ later) (outs-append (first states batch).states x y)
