use Rattle.std.proofs.Common.{◌≡◌, ◌++◌}
use Rattle.std.specs.Prelude.{string_bytes}
use Rattle.td_report.specs.Shown.{state_lines}
use Rattle.td_report.proofs.disk_lines.print_states.Given as goal

-- with the lines of the states that are left it is the text with all of them
abbrev pub invariant-loop-place : goal.invariant-loop-place
invariant-loop-place l = string_bytes l.text ++ state_lines l.place-iterator ≡ string_bytes l.initial.text ++ state_lines l.states
