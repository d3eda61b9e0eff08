use Rattle.std.proofs.Common.{◌≡◌, ◌+◌, ◌≤◌, length}
use denote.Text.{Utf8}
use denote.Shadow.{shadow}
use Rattle.td_plan.specs.Text.{text_lines}
use Rattle.td_console.specs.CodeSteps.{no_epochs, read_from}
use Rattle.td_console.proofs.epochs.read_each.Given as goal

-- the answer is that of the lines that are left, after the epochs so far; each line took a byte of the text
abbrev pub invariant-loop-said : goal.invariant-loop-said
invariant-loop-said l = record {
  text : shadow (Utf8 l.rest);
  answer : read_from l.fn.plan l.fn.first no_epochs (text_lines l.fn.text) ≡ read_from l.fn.plan l.number l.epochs (text_lines l.rest);
  bytes : l.number + length l.rest ≤ l.fn.first + length l.fn.text;
  few : l.fn.first + length l.epochs.closed ≤ l.number;
}

abbrev pub decreases-loop-said : goal.decreases-loop-said
decreases-loop-said l = length l.rest
