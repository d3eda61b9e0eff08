-- A hall that runs one epoch after another, each to its end before the next. No public contract cites this file.
use Rattle.std.specs.Prelude.{◌≡◌, ◌+◌, false, List, [], length, None}
use Rattle.td_stamp.specs.declared.values.Entry.{Entry}
use Rattle.td_plan.specs.Tree.{tree_of}
use Rattle.td_calls.specs.Answers.{Answers}
use Rattle.td_batch.specs.Meaning.{EpochResult, epoch_result}
use Rattle.td_machine.specs.State.{HallState}
use Rattle.td_machine.specs.Active.{unpassed}
use Rattle.td_machine.specs.Sound.{run_of}

-- A HALL BETWEEN EPOCHS: its inputs are open, no task is out, and each epoch that was released has passed and was collected
pub record IsBetween (S : HallState) : Type 0 where
  pub opened : S.closed ≡ false
  pub none_out : S.out ≡ []
  pub collected : S.collected + 1 ≡ S.next
  pub released : S.base + 1 + length S.batches ≡ S.next
  pub passed : unpassed S ≡ None

-- what the batch meaning has for one batch more
abbrev pub epoch_after : Answers → HallState → List Entry → EpochResult
epoch_after answers S batch = epoch_result (record { answers = answers; states = (run_of answers S).states; batch = batch }) (tree_of S.plan)

-- ONE EPOCH MORE was run
pub record IsRunOn (answers : Answers) (S : HallState) (batch : List Entry) (T : HallState) : Type 0 where
  pub between : IsBetween T
  pub plan : T.plan ≡ S.plan
  pub next : T.next ≡ S.next + 1
  pub states : (run_of answers T).states ≡ (epoch_after answers S batch).states

-- THE SAME RUN, though the hall may be cut: its states are those so far
pub record IsSameRun (answers : Answers) (S T : HallState) : Type 0 where
  pub between : IsBetween T
  pub plan : T.plan ≡ S.plan
  pub next : T.next ≡ S.next
  pub states : (run_of answers T).states ≡ (run_of answers S).states
