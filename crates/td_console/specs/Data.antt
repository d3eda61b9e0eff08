-- The data lines of an input: what they spell, their epochs, and their faults.
use Rattle.std.specs.Prelude.{ℕ, ◌+◌, Bool, true, false, if◌then◌else◌, List, [], ◌∷◌, ◌++◌, map, length, codes, ℤ, Option, Some, None}
use Rattle.std.specs.List.{filter_map, slice_split, slice_get, enumerate_from}
use Rattle.std.specs.Str.{bytes_eq}
use Rattle.td_stamp.specs.declared.values.Entry.{Entry}
use Rattle.td_stamp.specs.Orders.{entry_cmp}
use Rattle.td_stamp.specs.Bag.{bag_of}
use Rattle.td_plan.specs.Text.{words, is_passed_over, number_of, natural_of}
use Rattle.td_plan.specs.Lines.{Line as PlanLine}
use Rattle.td_plan.specs.Inputs.{is_input_of}
use Rattle.td_console.specs.declared.data_line.DataLine.{DataLine}
use Rattle.td_console.specs.declared.data_line.DataLine.TheVariants.{PassedOver, Record, Close}
use Rattle.td_console.specs.declared.faults.LineFault.TheVariants.{Syntax, NoSuchInput, NotClosed}
use Rattle.td_console.specs.declared.faults.Fault.{Fault}
use Rattle.td_console.specs.declared.faults.Fault.TheVariants.{Line}
use Rattle.td_console.specs.Number.{integer_of}

-- a record, from its three numbers
abbrev pub record_of : Option ℕ → Option ℕ → Option ℤ → Option DataLine
record_of (Some input) (Some key) (Some val) = Some (Record input (record { key = key; val = val }))
record_of _ _ _ = None

-- what the words of a line spell: `.`, or `INPUT KEY VAL`
abbrev pub spelled : List (List ℕ) → Option DataLine
spelled (word ∷ []) = if bytes_eq word (codes ".") then Some Close else None
spelled (input ∷ key ∷ val ∷ []) = record_of (number_of input) (natural_of key) (integer_of val)
spelled _ = None

-- what a data line spells, if it has a form
abbrev pub data_line_of : List ℕ → Option DataLine
data_line_of line = if is_passed_over line then Some PassedOver else spelled (words line)

-- whether a line closes the epoch, and the entry that it brings
abbrev pub closes : DataLine → Bool
closes Close = true
closes _ = false

abbrev pub entry_of : DataLine → Option Entry
entry_of (Record input rec) = Some (record { input = input; rec = rec })
entry_of _ = None

-- the entries between the lines that close an epoch; the last of these lists stands after all of them
abbrev pub entries_by_epoch : List (List ℕ) → List (List Entry)
entries_by_epoch lines = map (filter_map entry_of) (slice_split closes (filter_map data_line_of lines))

-- all lists but the last, and the last
abbrev pub but_last : List (List Entry) → List (List Entry)
but_last [] = []
but_last (list ∷ []) = []
but_last (list ∷ next ∷ lists) = list ∷ but_last (next ∷ lists)

abbrev pub last : List (List Entry) → List Entry
last [] = []
last (list ∷ []) = list
last (list ∷ next ∷ lists) = last (next ∷ lists)

-- THE BATCHES OF THE EPOCHS, as bags
abbrev pub batches_of : List (List ℕ) → List (List Entry)
batches_of lines = map (bag_of entry_cmp) (but_last (entries_by_epoch lines))

-- the entries after the last line that closes an epoch
abbrev pub unclosed : List (List ℕ) → List Entry
unclosed lines = last (entries_by_epoch lines)

-- the fault of line n, where there is one
abbrev pub line_fault : List PlanLine → ℕ → Option DataLine → Option Fault
line_fault plan n None = Some (Line n Syntax)
line_fault plan n (Some (Record input rec)) = if is_input_of plan input then None else Some (Line n NoSuchInput)
line_fault plan n (Some _) = None

-- the fault of the end of the data, which is counted as the line after the last one
abbrev pub end_faults : ℕ → List Entry → List Fault
end_faults n [] = []
end_faults n (entry ∷ entries) = Line n NotClosed ∷ []

-- all faults of data lines, of which the first has the number n, in their order
abbrev pub data_faults : List PlanLine → ℕ → List (List ℕ) → List Fault
data_faults plan n lines =
    filter_map (λ p. line_fault plan p.0 (data_line_of p.1)) (enumerate_from n lines) ++ end_faults (n + length lines) (unclosed lines)

-- THE FIRST FAULT
abbrev pub data_fault : List PlanLine → ℕ → List (List ℕ) → Option Fault
data_fault plan n lines = slice_get (data_faults plan n lines) 0
