-- The code's own steps: what its private functions say of one another, as the reader of data lines does line by line.
-- No public contract cites this file, and no definition of an answer rests on it.
use Rattle.std.specs.Prelude.{◌≡◌, ℕ, ◌+◌, ◌<◌, List, [], ◌∷◌, ◌++◌, length, if◌then◌else◌}
use Rattle.std.specs.Prelude.{Option, Some, None, Result, Ok, Err}
use Rattle.td_stamp.specs.declared.values.Entry.{Entry}
use Rattle.td_stamp.specs.Orders.{entry_cmp}
use Rattle.td_stamp.specs.Bag.{bag_of}
use Rattle.td_plan.specs.Lines.{Line as PlanLine}
use Rattle.td_plan.specs.Text.{text_lines}
use Rattle.td_plan.specs.Inputs.{is_input_of}
use Rattle.td_console.specs.declared.data_line.DataLine.{DataLine}
use Rattle.td_console.specs.declared.data_line.DataLine.TheVariants.{PassedOver, Record, Close}
use Rattle.td_console.specs.declared.faults.LineFault.TheVariants.{Syntax, NoSuchInput, NotClosed}
use Rattle.td_console.specs.declared.faults.Fault.{Fault}
use Rattle.td_console.specs.declared.faults.Fault.TheVariants.{Line, Input, Output, Picks, File, Shape, Keeper, Spent}
use Rattle.td_console.specs.Data.{data_line_of}

-- Epochs read so far: the batches of those that are closed, and the entries of the one which is not, as they were read
pub record Epochs : Type 0 where
  pub closed : List (List Entry)
  pub current : List Entry

-- before the first line
abbrev pub no_epochs : Epochs
no_epochs = record { closed = []; current = [] }

-- with one more line, which has the number n, or its fault
abbrev pub with_data_line : List PlanLine → ℕ → Epochs → Option DataLine → Result Epochs Fault
with_data_line plan n epochs None = Err (Line n Syntax)
with_data_line plan n epochs (Some PassedOver) = Ok epochs
with_data_line plan n epochs (Some Close) = Ok (record { closed = epochs.closed ++ bag_of entry_cmp epochs.current ∷ []; current = [] })
with_data_line plan n epochs (Some (Record input rec)) =
    if is_input_of plan input then Ok (record { closed = epochs.closed; current = epochs.current ++ record { input = input; rec = rec } ∷ [] })
    else Err (Line n NoSuchInput)

-- what comes after an answer, unless it is a fault
abbrev pub epochs_then : (Epochs → Result (List (List Entry)) Fault) → Result Epochs Fault → Result (List (List Entry)) Fault
epochs_then next (Ok epochs) = next epochs
epochs_then next (Err fault) = Err fault

-- the batches at the end of the data
abbrev pub closed_batches : ℕ → List (List Entry) → List Entry → Result (List (List Entry)) Fault
closed_batches n closed [] = Ok closed
closed_batches n closed (entry ∷ entries) = Err (Line n NotClosed)

-- the batches with some more lines, of which the first has the number n
abbrev pub read_from : List PlanLine → ℕ → Epochs → List (List ℕ) → Result (List (List Entry)) Fault
read_from plan n epochs [] = closed_batches n epochs.closed epochs.current
read_from plan n epochs (line ∷ lines) = epochs_then (λ more. read_from plan (n + 1) more lines) (with_data_line plan n epochs (data_line_of line))

-- WHAT THE FIRST LINE of a text says, and what comes after it
pub record IsFirstLine (text : List ℕ) (said : Option DataLine) (rest : List ℕ) : Type 0 where
  pub line : List ℕ
  pub lines : text_lines text ≡ line ∷ text_lines rest
  pub says : said ≡ data_line_of line
  pub shorter : length rest < length text

-- a fault that the input can have, or want of memory: none of a reader's or a writer's, of picks, of a disk or of a hall
abbrev pub IsOfInput : Fault → Type 0
IsOfInput Input = ⊥
IsOfInput Output = ⊥
IsOfInput Picks = ⊥
IsOfInput File = ⊥
IsOfInput Shape = ⊥
IsOfInput (Keeper e) = ⊥
IsOfInput Spent = ⊥
IsOfInput _ = Unit {0}

-- the same, or a reader's
abbrev pub IsOfReading : Fault → Type 0
IsOfReading Output = ⊥
IsOfReading Picks = ⊥
IsOfReading File = ⊥
IsOfReading Shape = ⊥
IsOfReading (Keeper e) = ⊥
IsOfReading Spent = ⊥
IsOfReading _ = Unit {0}
