-- Which batches replies acknowledge, which outputs they hand out, and where these stand in a history.
use Rattle.std.specs.Prelude.{◌≡◌, ℕ, ◌+◌, ◌≤◌, List, [], ◌∷◌, ◌++◌, length, All, Contains, Some, Ok}
use Rattle.td_stamp.specs.declared.epoch_out.EpochOut.{EpochOut}
use Rattle.td_plan.specs.Lines.{Line}
use Rattle.td_plan.specs.Tree.{tree_of}
use Rattle.td_calls.specs.Answers.{Answers}
use Rattle.td_batch.specs.Meaning.{run, numbered}
use Rattle.td_journal.specs.declared.payload.Submitted.{Submitted as AnySubmitted}
use Rattle.td_store.specs.standing.Standing.{Standing, last_epoch, batches_of, submission}
use Rattle.td_store.specs.standing.Stops.{Begins, Stands}
use Rattle.td_store.specs.standing.Told.{Told}
use Rattle.td_store.specs.standing.Advanced.{states_by}
use Rattle.td_keeper.specs.declared.receipt.Receipt.TheVariants.{New}
use Rattle.td_keeper.specs.declared.command.Command.{Command}
use Rattle.td_keeper.specs.declared.command.Command.TheVariants.{Submit, SubmitAs, SubmitAll}
use Rattle.td_keeper.specs.declared.command.Reply.{Reply}
use Rattle.td_keeper.specs.declared.command.Reply.TheVariants.{Submitted, SubmittedAs, SubmittedAll, Out}
use Rattle.td_keeper.specs.Keeping.{Keeping, IsKeeping}
use Rattle.td_keeper.specs.Driven.{submitted_by}

-- an epoch: its number, and its batch with the request number
pub record Epoch : Type 0 where
  pub number : ℕ
  pub submitted : AnySubmitted

-- batches as epochs one after another, from this number on
abbrev pub epochs_from : ℕ → List AnySubmitted → List Epoch
epochs_from n [] = []
epochs_from n (x ∷ more) = record { number = n; submitted = x } ∷ epochs_from (n + 1) more

-- WHAT A REPLY ACKNOWLEDGES, by its command: these batches as these epochs
abbrev pub acknowledged_in : Command → Reply → List Epoch
acknowledged_in (Submit batch) (Submitted epoch) = epochs_from epoch (submission 0 batch ∷ [])
acknowledged_in (SubmitAs request batch) (SubmittedAs (New epoch)) = epochs_from epoch (submission request batch ∷ [])
acknowledged_in (SubmitAll group) (SubmittedAll first end) = epochs_from first group
acknowledged_in _ _ = []

-- and what replies do, in order
abbrev pub acknowledged_by : List Command → List Reply → List Epoch
acknowledged_by [] replies = []
acknowledged_by (command ∷ commands) [] = []
acknowledged_by (command ∷ commands) (reply ∷ replies) = acknowledged_in command reply ++ acknowledged_by commands replies

-- the epochs of a history, from the first on
abbrev pub epochs_of : List AnySubmitted → List Epoch
epochs_of history = epochs_from 1 history

-- and their outputs by the batch meaning
abbrev pub outs_of : Answers → List Line → List AnySubmitted → List EpochOut
outs_of answers plan history = numbered 1 (run answers (tree_of plan) [] (batches_of history)).outs

-- A REPLY HANDS OUT no epoch beyond the n-th
abbrev pub HandsOutUpTo : ℕ → Reply → Type 0
HandsOutUpTo n (Out (Some out)) = out.epoch ≤ n
HandsOutUpTo n _ = Unit {0}

-- WHAT REPLIES ACKNOWLEDGE are batches as the epochs that follow the keeper's last, each once: all that was submitted, but what the
-- device perhaps failed in. If the keeper stood for a history, it now stands for that and these, and each is the epoch that was told.
pub record Acknowledges {D : Type 0} (answers : Answers) (commands : List Command) (replies : List Reply) (old new : Keeping D) : Type 0 where
  pub batches : List AnySubmitted
  pub epochs : acknowledged_by commands replies ≡ epochs_from (last_epoch old.standing + 1) batches
  pub submitted : Begins batches (submitted_by commands replies)
  pub plan : new.plan ≡ old.plan
  pub kept : IsKeeping new answers
  pub last : last_epoch new.standing ≡ last_epoch old.standing + length batches
  pub stands : (history : List AnySubmitted) → Stands (states_by answers old.plan) old.standing history → Stands (states_by answers old.plan) new.standing (history ++ batches)
  pub there : (history : List AnySubmitted) → Stands (states_by answers old.plan) old.standing history → All (Contains (epochs_of (history ++ batches))) (acknowledged_by commands replies)

-- AN IMAGE TELLS EPOCHS AND OUTPUTS: it tells a standing for a history that has each of these epochs, and of which each of these
-- outputs is.
pub record TellsWork (answers : Answers) (plan : List Line) (acknowledged : List Epoch) (handed : List EpochOut) (image : List ℕ) : Type 0 where
  pub standing : Standing
  pub told : Told plan image (Ok standing)
  pub history : List AnySubmitted
  pub stands : Stands (states_by answers plan) standing history
  pub epochs : All (Contains (epochs_of history)) acknowledged
  pub outs : All (Contains (outs_of answers plan history)) handed
