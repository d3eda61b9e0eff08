use Rattle.std.proofs.Common.{◌+◌, ◌≤◌, length}
use Rattle.td_plan.specs.Text.{text_lines}
use Rattle.td_states.specs.Steps.{IsReadUpTo}
use Rattle.td_states.proofs.read.read_text.Given as goal

-- the lines so far are read; each took a byte of the text
abbrev pub invariant-loop-line : goal.invariant-loop-line
invariant-loop-line l = record {
  so_far : IsReadUpTo l.folds.items l.renames (text_lines l.text) (text_lines l.rest) l.number l.read;
  bytes : l.number + length l.rest ≤ length l.text;
}

abbrev pub decreases-loop-line : goal.decreases-loop-line
decreases-loop-line l = length l.rest
