-- One epoch over the arrays of C, by the closures of a store.
use Rattle.std.specs.Prelude.{◌≡◌, ◌<◌, ◌⊎◌, ℕ, List, take, drop, length, map}
use Rattle.td_stamp.specs.declared.values.Output.{Output}
use Rattle.td_stamp.specs.States.{StateList}
use Rattle.td_plan.specs.Lines.{Line}
use Rattle.td_plan.specs.Tree.{tree_of}
use Rattle.td_batch.specs.Meaning.{EpochResult, epoch_result}
use Rattle.td_c.specs.declared.values.TdRecord.{TdRecord}
use Rattle.td_c.specs.declared.values.TdState.{TdState}
use Rattle.td_c.specs.declared.values.TdCounts.{TdCounts}
use Rattle.td_c.specs.declared.refusal.Refusal.{Refusal}
use Rattle.td_c.specs.declared.refusal.Refusal.TheVariants as refusals
use Rattle.td_calls.specs.Stored.{Stored}
use Rattle.td_c.specs.PlanRead.{IsPlanOf, PlanRefused}
use Rattle.td_c.specs.Rows.{batch_of, states_of, state_row, output_row, RecordRefused, StateRefused}

-- the first places of an array have these rows, and the others are as they were
pub record HasRows (Row : Type 0) (before after rows : List Row) : Type 0 where
  pub written : take (length rows) after ≡ rows
  pub others : drop (length rows) after ≡ drop (length rows) before

module _ (stored : Stored) where
  -- THE BATCH MEANING of one epoch of a plan, of these records and states
  abbrev pub meaning : List Line → List TdRecord → List TdState → EpochResult
  meaning plan records kept =
      epoch_result (record { answers = stored.answers; states = states_of kept; batch = batch_of records }) (tree_of plan)

  -- these are the states and outputs of the epoch
  pub record Advances (text : List ℕ) (records : List TdRecord) (kept : List TdState) (states : StateList) (outputs : List Output) : Type 0 where
    pub plan : List Line
    pub is_plan : IsPlanOf stored text plan
    pub states_are : states ≡ (meaning plan records kept).states
    pub outputs_are : outputs ≡ (meaning plan records kept).outs

  -- why there is no epoch of these records, and of these states
  pub record RecordsRefused (text : List ℕ) (records : List TdRecord) (refusal : Refusal) : Type 0 where
    pub plan : List Line
    pub is_plan : IsPlanOf stored text plan
    pub reason : RecordRefused plan records refusal

  pub record StatesRefused (text : List ℕ) (kept : List TdState) (refusal : Refusal) : Type 0 where
    pub plan : List Line
    pub is_plan : IsPlanOf stored text plan
    pub reason : StateRefused plan kept refusal

  -- why there is no such epoch
  abbrev pub AdvanceRefused : List ℕ → List TdRecord → List TdState → Refusal → Type 0
  AdvanceRefused text records kept refusals.Memory = Unit {0}
  AdvanceRefused text records kept (refusals.Input index) = RecordsRefused text records (refusals.Input index)
  AdvanceRefused text records kept (refusals.Fold index) = StatesRefused text kept (refusals.Fold index)
  AdvanceRefused text records kept (refusals.Doubled index) = StatesRefused text kept (refusals.Doubled index)
  AdvanceRefused text records kept refusal = PlanRefused stored text refusal

  -- the epoch was done: the arrays begin with its states and outputs, of which there are so many, and are else as they were
  pub record EpochWritten (text : List ℕ) (records : List TdRecord) (states states' : List TdState) (outputs outputs' : List TdRecord) (counts counts' : TdCounts) : Type 0 where
    pub after : StateList
    pub outs : List Output
    pub advances : Advances text records (take counts.states states) after outs
    pub states_are : HasRows TdState states states' (map state_row after)
    pub outputs_are : HasRows TdRecord outputs outputs' (map output_row outs)
    pub counts_are : counts' ≡ record { states = length after; outputs = length outs }

  -- there is too little room for what the epoch gives: so much is wanted
  pub record LacksRoom (text : List ℕ) (records : List TdRecord) (states : List TdState) (outputs : List TdRecord) (counts counts' : TdCounts) : Type 0 where
    pub after : StateList
    pub outs : List Output
    pub advances : Advances text records (take counts.states states) after outs
    pub wanted : counts' ≡ record { states = length after; outputs = length outs }
    pub less : (length states < length after) ⊎ (length outputs < length outs)

  -- why the epoch was not done; the counts are as they were, but where room is lacking
  abbrev pub EpochRefused : List ℕ → List TdRecord → List TdState → List TdRecord → TdCounts → TdCounts → Refusal → Type 0
  EpochRefused text records states outputs counts counts' refusals.Room = LacksRoom text records states outputs counts counts'
  EpochRefused text records states outputs counts counts' refusals.Count = (length states < counts.states) × (counts' ≡ counts)
  EpochRefused text records states outputs counts counts' refusal = AdvanceRefused text records (take counts.states states) refusal × (counts' ≡ counts)
