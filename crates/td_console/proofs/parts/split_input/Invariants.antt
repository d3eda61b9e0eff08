use Rattle.std.proofs.Common.{◌+◌, ◌≤◌, length}
use denote.Text.{Utf8}
use denote.Shadow.{shadow}
use Rattle.td_console.proofs.Separated.{IsLeft}
use Rattle.td_console.proofs.parts.split_input.Given as goal

-- the lines so far do not separate
abbrev pub invariant-loop-line : goal.invariant-loop-line
invariant-loop-line l = record {
  text : shadow (Utf8 l.rest);
  left : IsLeft l.fn.input l.rest l.number;
  bytes : l.number + length l.rest ≤ length l.fn.input;
}

abbrev pub decreases-loop-line : goal.decreases-loop-line
decreases-loop-line l = length l.rest
