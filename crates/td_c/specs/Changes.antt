-- The changes of one epoch over the arrays of C, by the closures of a store.
use Rattle.std.specs.Prelude.{◌≡◌, ◌<◌, ◌⊎◌, ℕ, List, fold, length, map, Some, None, pos}
use Rattle.td_stamp.specs.declared.values.Output.{Output}
use Rattle.td_stamp.specs.States.{StateList}
use Rattle.td_plan.specs.Lines.{Line}
use Rattle.td_plan.specs.Tree.{tree_of}
use Rattle.td_batch.specs.declared.changes.Change.{Change}
use Rattle.td_batch.specs.Meaning.{EpochInput, EpochResult, epoch_result}
use Rattle.td_batch.specs.Changes.{epoch_changes, with_change, AgreeAt}
use Rattle.td_c.specs.declared.values.TdRecord.{TdRecord}
use Rattle.td_c.specs.declared.values.TdState.{TdState}
use Rattle.td_c.specs.declared.values.TdChange.{TdChange}
use Rattle.td_c.specs.declared.values.TdCounts.{TdCounts}
use Rattle.td_c.specs.declared.refusal.Refusal.{Refusal}
use Rattle.td_c.specs.declared.refusal.Refusal.TheVariants as refusals
use Rattle.td_calls.specs.Stored.{Stored}
use Rattle.td_c.specs.PlanRead.{IsPlanOf}
use Rattle.td_c.specs.Rows.{batch_of, states_of, output_row}
use Rattle.td_c.specs.Epoch.{HasRows, AdvanceRefused}
use Rattle.td_c.specs.Beside.{HoldsBeside, ClosuresRefused}

-- the row of a change: it has a state, or none
abbrev pub change_row : Change → TdChange
change_row c = elim c.state [
  | Some state ↦ record { vertex = c.vertex; key = c.key; is_kept = 1; a = state.a; b = state.b }
  | None ↦ record { vertex = c.vertex; key = c.key; is_kept = 0; a = pos 0; b = pos 0 }
]

module _ (stored : Stored) where
  -- an epoch of these records, from these states
  abbrev pub input_from : List TdRecord → StateList → EpochInput
  input_from records states = record { answers = stored.answers; states = states; batch = batch_of records }

  -- ITS BATCH MEANING by a plan
  abbrev pub meaning_from : List Line → List TdRecord → StateList → EpochResult
  meaning_from plan records states = epoch_result (input_from records states) (tree_of plan)

  -- THE CHANGES of an epoch, one for each key of a fold at which records arrive, fold by fold. They and the outputs are those of all
  -- states that have, wherever one of the changes is, what was handed in
  pub record Changes (text : List ℕ) (records : List TdRecord) (given : List TdState) (changes : List Change) (outs : List Output) : Type 0 where
    pub plan : List Line
    pub is_plan : IsPlanOf stored text plan
    pub changes_are : changes ≡ epoch_changes (input_from records (states_of given)) (tree_of plan)
    pub states_are : (all : StateList) → AgreeAt changes (states_of given) all → fold with_change all changes ≡ (meaning_from plan records all).states
    pub outputs_are : (all : StateList) → AgreeAt changes (states_of given) all → outs ≡ (meaning_from plan records all).outs

  -- they were written: the arrays begin with them, and are else as they were
  pub record ChangesWritten (text : List ℕ) (records : List TdRecord) (given : List TdState) (rows rows' : List TdChange) (outputs outputs' : List TdRecord) (counts : TdCounts) : Type 0 where
    pub changes : List Change
    pub outs : List Output
    pub are : Changes text records given changes outs
    pub changes_are : HasRows TdChange rows rows' (map change_row changes)
    pub outputs_are : HasRows TdRecord outputs outputs' (map output_row outs)
    pub counts_are : counts ≡ record { states = length changes; outputs = length outs }

  -- there is too little room for them: so much is wanted
  pub record LacksRoomFor (text : List ℕ) (records : List TdRecord) (given : List TdState) (rows : List TdChange) (outputs : List TdRecord) (counts : TdCounts) : Type 0 where
    pub changes : List Change
    pub outs : List Output
    pub are : Changes text records given changes outs
    pub wanted : counts ≡ record { states = length changes; outputs = length outs }
    pub less : (length rows < length changes) ⊎ (length outputs < length outs)

  -- why they were not written; the counts are as they were, but where room is lacking
  abbrev pub ChangesRefused : List ℕ → List TdRecord → List TdState → List TdChange → List TdRecord → TdCounts → TdCounts → Refusal → Type 0
  ChangesRefused text records given rows outputs counts counts' refusals.Room = LacksRoomFor text records given rows outputs counts'
  ChangesRefused text records given rows outputs counts counts' refusals.Count = ⊥
  ChangesRefused text records given rows outputs counts counts' refusal = AdvanceRefused stored text records given refusal × (counts' ≡ counts)

-- the same by the catalogue with closures in text beside it; where these are refused, the counts are as they were
abbrev pub ChangesWrittenBeside : List ℕ → List ℕ → List TdRecord → List TdState → List TdChange → List TdChange → List TdRecord → List TdRecord → TdCounts → Type 0
ChangesWrittenBeside closures text records given rows rows' outputs outputs' counts =
    HoldsBeside closures (λ stored. ChangesWritten stored text records given rows rows' outputs outputs' counts)

abbrev pub ChangesRefusedBeside : List ℕ → List ℕ → List TdRecord → List TdState → List TdChange → List TdRecord → TdCounts → TdCounts → Refusal → Type 0
ChangesRefusedBeside closures text records given rows outputs counts counts' refusal =
    (ClosuresRefused closures refusal × (counts' ≡ counts))
    ⊎ HoldsBeside closures (λ stored. ChangesRefused stored text records given rows outputs counts counts' refusal)
