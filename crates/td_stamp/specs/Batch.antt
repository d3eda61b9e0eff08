-- Batches: the entries of one epoch.
use Rattle.std.specs.Prelude.{ℕ, List, map, filter, ◌==◌}
use Rattle.td_stamp.specs.declared.values.Rec.{Rec}
use Rattle.td_stamp.specs.declared.values.Entry.{Entry}

-- the records that a batch gives an input
abbrev pub records_for : ℕ → List Entry → List Rec
records_for input batch = map (λ e. e.rec) (filter (λ e. e.input == input) batch)
