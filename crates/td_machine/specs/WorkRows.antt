-- Rows of exact work: each holds by computing.
use Rattle.std.specs.Prelude.{◌≡◌, ℕ, [], ◌∷◌, pos, refl, List}
use Rattle.td_stamp.specs.declared.values.Entry.{Entry}
use Rattle.td_plan.specs.Named.{loop_plan, nest_plan, both_plan, ring_plan}
use Rattle.td_plan.specs.Lines.{Line}
use Rattle.td_calls.specs.Stock.{stock}
use Rattle.td_batch.specs.Examples.{entry}
use Rattle.td_machine.specs.Work.{Records, Notes}

-- of one batch, from no states
abbrev records_of : List Line → List Entry → ℕ
records_of plan batch = Records stock plan [] (batch ∷ [])

abbrev notes_of : ℕ → List Line → List Entry → ℕ
notes_of workers plan batch = Notes workers stock plan [] (batch ∷ [])

abbrev one_entry : List Entry
one_entry = entry 0 7 (pos 5) ∷ []

abbrev both_entries : List Entry
both_entries = entry 0 7 (pos 5) ∷ entry 0 8 (pos 1) ∷ entry 1 7 (pos 10) ∷ []

abbrev ring_entries : List Entry
ring_entries = entry 0 0 (pos 1) ∷ entry 0 0 (pos 1) ∷ []

pub loop_records : records_of (loop_plan 3) one_entry ≡ 13
loop_records = refl

pub loop_notes : notes_of 1 (loop_plan 3) one_entry ≡ 0
loop_notes = refl

pub nest_records : records_of nest_plan one_entry ≡ 32
nest_records = refl

pub nest_notes : notes_of 1 nest_plan one_entry ≡ 4
nest_notes = refl

pub both_records : records_of both_plan both_entries ≡ 4
both_records = refl

pub both_notes : notes_of 1 both_plan both_entries ≡ 1
both_notes = refl

pub ring_records : records_of ring_plan ring_entries ≡ 57
ring_records = refl

-- as many shards as workers, but no more than keys
pub ring_notes : notes_of 1 ring_plan ring_entries ≡ 1
ring_notes = refl

pub ring_notes_2 : notes_of 2 ring_plan ring_entries ≡ 2
ring_notes_2 = refl

pub ring_notes_16 : notes_of 16 ring_plan ring_entries ≡ 4
ring_notes_16 = refl
