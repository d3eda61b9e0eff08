use Rattle.std.proofs.Common.{◌≡◌, ◌+◌, ◌≤◌, length}
use Rattle.std.specs.List.{list_all}
use Rattle.std.specs.Char.{is_ascii}
use Rattle.td_plan.specs.Text.{text_lines}
use Rattle.td_console.specs.Parts.{wide_fault}
use Rattle.td_console.proofs.Wide.{wide_from}
use Rattle.td_console.proofs.parts.find_wide_fault.Given as goal

-- the lines so far are ASCII, so the answer is that of the lines that are left
abbrev pub invariant-loop-line : goal.invariant-loop-line
invariant-loop-line l = record {
  answer : wide_fault l.fn.input ≡ wide_from l.in_data (l.number + 1) (text_lines l.rest);
  ascii : list_all (list_all is_ascii) (text_lines l.fn.input) ≡ list_all (list_all is_ascii) (text_lines l.rest);
  bytes : l.number + length l.rest ≤ length l.fn.input;
}

abbrev pub decreases-loop-line : goal.decreases-loop-line
decreases-loop-line l = length l.rest
