-- The two parts of an input, the plan text and the data lines, and bytes that are not ASCII.
use Rattle.std.specs.Prelude.{ℕ, ◌+◌, Bool, true, false, ◌&&◌, if◌then◌else◌, List, [], ◌∷◌, ◌++◌}
use Rattle.std.specs.Prelude.{length, flat_map, codes, Option, Some, None}
use Rattle.std.specs.List.{list_all, list_any, filter_map, before_first, after_first, enumerate_from, slice_get}
use Rattle.std.specs.Str.{bytes_eq}
use Rattle.std.specs.Char.{is_ascii}
use Rattle.td_plan.specs.declared.error.PlanError.TheVariants as errors
use Rattle.td_plan.specs.Text.{text_lines, words, is_printable}
use Rattle.td_console.specs.declared.faults.LineFault.TheVariants.{Syntax}
use Rattle.td_console.specs.declared.faults.Fault.{Fault}
use Rattle.td_console.specs.declared.faults.Fault.TheVariants.{Plan, Line}

-- the one word `--`
abbrev pub are_two_dashes : List (List ℕ) → Bool
are_two_dashes (word ∷ []) = bytes_eq word (codes "--")
are_two_dashes _ = false

-- a printable line whose only word is `--`
abbrev pub is_separator : List ℕ → Bool
is_separator line = list_all is_printable line && are_two_dashes (words line)

-- lines, each ended by a line feed
abbrev pub joined : List (List ℕ) → List ℕ
joined lines = flat_map (λ line. line ++ 10 ∷ []) lines

-- the plan text: the lines before the first separator. Without one it is the whole input
abbrev pub plan_text : List ℕ → List ℕ
plan_text input = if list_any is_separator (text_lines input) then joined (before_first is_separator (text_lines input)) else input

-- the lines after the first separator, of which none are there without one
abbrev pub data_lines : List ℕ → List (List ℕ)
data_lines input = after_first is_separator (text_lines input)

-- the number of the first of them
abbrev pub first_data_line : List ℕ → ℕ
first_data_line input = length (before_first is_separator (text_lines input)) + 2

-- the fault of a byte above 127 in line n: one of the plan before the separator, and of the data after it
abbrev pub wide_fault_at : Bool → ℕ → Fault
wide_fault_at false n = Plan (errors.Syntax n)
wide_fault_at true n = Line n Syntax

-- of some lines of which the first has the number n, the faults of those with a byte above 127
abbrev pub wide_faults : Bool → ℕ → List (List ℕ) → List Fault
wide_faults in_data n lines = filter_map (λ p. if list_all is_ascii p.1 then None else Some (wide_fault_at in_data p.0)) (enumerate_from n lines)

-- THE FIRST FAULT of a byte above 127
abbrev pub wide_fault : List ℕ → Option Fault
wide_fault input =
    slice_get (wide_faults false 1 (before_first is_separator (text_lines input)) ++ wide_faults true (first_data_line input) (data_lines input)) 0
