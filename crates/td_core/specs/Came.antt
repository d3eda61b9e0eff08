-- What came to the outputs of a plan, epoch by epoch.
use Rattle.std.specs.Prelude.{ℕ, ◌+◌, ◌-◌, ◌==◌, nat_lt, List, map, filter, flat_map, cond, Option, Some, None}
use Rattle.td_stamp.specs.declared.values.Rec.{Rec}
use Rattle.td_stamp.specs.declared.values.Output.{Output}
use Rattle.td_stamp.specs.declared.epoch_out.EpochOut.{EpochOut}
use Rattle.td_stamp.specs.Bag.{bag_of}
use Rattle.td_batch.specs.Flow.{numbers_from}
use Rattle.td_reach.specs.declared.stamp.Stamp.{Stamp}
use Rattle.td_reach.specs.Frontier.{has_passed}
use Rattle.td_machine.specs.declared.records.OutputAt.{OutputAt}
use Rattle.td_machine.specs.State.{output_at_cmp}

-- a record that comes to an output
abbrev pub output_of : ℕ → Rec → Output
output_of vertex r = record { vertex = vertex; rec = r }

-- in an epoch
abbrev pub output_at : ℕ → ℕ → Rec → OutputAt
output_at epoch vertex r = record { epoch = epoch; output = output_of vertex r }

-- an output of an epoch
abbrev pub at_epoch : ℕ → Output → OutputAt
at_epoch epoch output = record { epoch = epoch; output = output }

-- the outputs of epochs, each epoch's as they came, however its list is kept
abbrev pub listed : {V : Type 0} → (V → List Output) → List (ℕ × V) → List OutputAt
listed f epochs = flat_map (λ e. map (at_epoch e.0) (f e.1)) epochs

-- as a bag
abbrev pub came : {V : Type 0} → (V → List Output) → List (ℕ × V) → List OutputAt
came f epochs = bag_of output_at_cmp (listed f epochs)

-- those of one epoch
abbrev pub came_at : ℕ → List OutputAt → List Output
came_at epoch outputs = map (λ o. o.output) (filter (λ o. o.epoch == epoch) outputs)

-- what comes out of an epoch
abbrev pub out_of : List OutputAt → ℕ → EpochOut
out_of outputs epoch = record { epoch = epoch; recs = came_at epoch outputs }

-- the epochs after one, and before the next that is released, that have passed
abbrev pub passed_since : List Stamp → ℕ → ℕ → List ℕ
passed_since active after next = filter (has_passed active) (numbers_from (after + 1) (next - (after + 1)))

-- the outputs of later epochs
abbrev pub later_than : ℕ → List OutputAt → List OutputAt
later_than epoch outputs = filter (λ o. nat_lt epoch o.epoch) outputs

-- a number, where it is below another
abbrev pub next_below : ℕ → ℕ → Option ℕ
next_below n end = cond (nat_lt n end) (Some n) None
