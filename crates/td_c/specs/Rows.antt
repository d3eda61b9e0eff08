-- Records and states as C has them.
use Rattle.std.specs.Prelude.{◌≡◌, ℕ, Bool, true, false, List, [], map, fold, take, Some, None, option_map, is_some}
use Rattle.std.specs.List.{list_all, slice_get}
use Rattle.td_stamp.specs.declared.values.Entry.{Entry}
use Rattle.td_stamp.specs.declared.values.Output.{Output}
use Rattle.td_stamp.specs.declared.values.State.{State}
use Rattle.td_stamp.specs.Bag.{bag_of}
use Rattle.td_stamp.specs.Orders.{entry_cmp}
use Rattle.td_stamp.specs.States.{StateList, state_of, with_state}
use Rattle.td_plan.specs.Lines.{Line}
use Rattle.td_plan.specs.Blocks.{vertices}
use Rattle.td_plan.specs.Faults.{is_fold}
use Rattle.td_plan.specs.Inputs.{is_input_of}
use Rattle.td_c.specs.declared.values.TdRecord.{TdRecord}
use Rattle.td_c.specs.declared.values.TdState.{TdState}
use Rattle.td_c.specs.declared.refusal.Refusal.{Refusal}
use Rattle.td_c.specs.declared.refusal.Refusal.TheVariants.{Input, Fold, Doubled, Memory}

-- the batch of some records
abbrev pub entry_of : TdRecord → Entry
entry_of r = record { input = r.vertex; rec = record { key = r.key; val = r.val } }

abbrev pub batch_of : List TdRecord → List Entry
batch_of records = bag_of entry_cmp (map entry_of records)

-- the states that some rows tell
abbrev pub with_row : StateList → TdState → StateList
with_row states row = with_state states row.vertex row.key (record { a = row.a; b = row.b })

abbrev pub states_of : List TdState → StateList
states_of rows = fold with_row [] rows

-- the row of a state, and of an output
abbrev pub state_row : (ℕ × ℕ) × State → TdState
state_row s = record { vertex = s.0.0; key = s.0.1; a = s.1.a; b = s.1.b }

abbrev pub output_row : Output → TdRecord
output_row o = record { vertex = o.vertex; key = o.rec.key; val = o.rec.val }

-- whether a number is that of a fold
abbrev pub is_fold_of : List Line → ℕ → Bool
is_fold_of plan v = elim (slice_get (vertices plan) v) [ None ↦ false | Some p ↦ is_fold p.vertex.kind ]

-- whether an earlier row has the vertex and key of this one
abbrev pub is_doubled : List TdState → ℕ → TdState → Bool
is_doubled rows index row = is_some (state_of (states_of (take index rows)) row.vertex row.key)

-- why records are refused: the first that names no input of the plan
abbrev pub RecordRefused : List Line → List TdRecord → Refusal → Type 0
RecordRefused plan records (Input index) =
    (list_all (λ r. is_input_of plan r.vertex) (take index records) ≡ true) × (option_map (λ r. is_input_of plan r.vertex) (slice_get records index) ≡ Some false)
RecordRefused plan records Memory = Unit {0}
RecordRefused plan records _ = ⊥

-- why states are refused: one that names no fold of the plan, or one of which an earlier has the vertex and key
abbrev pub StateRefused : List Line → List TdState → Refusal → Type 0
StateRefused plan rows (Fold index) = option_map (λ s. is_fold_of plan s.vertex) (slice_get rows index) ≡ Some false
StateRefused plan rows (Doubled index) = option_map (is_doubled rows index) (slice_get rows index) ≡ Some true
StateRefused plan rows Memory = Unit {0}
StateRefused plan rows _ = ⊥
