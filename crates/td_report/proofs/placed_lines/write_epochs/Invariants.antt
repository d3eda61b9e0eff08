use Rattle.std.proofs.Common.{◌≡◌, ◌+◌, ◌≤◌, ◌++◌, take, drop}
use Rattle.std.specs.Prelude.{string_bytes, string_capacity}
use Rattle.td_gate.specs.Reading.{Each}
use Rattle.td_report.specs.Dumped.{placed_text, WritesFront, FitsLines}
use Rattle.td_report.proofs.placed_lines.write_epochs.Given as goal

-- with the lines of the epochs that are left, what is held and what was written is all of them
abbrev pub invariant-loop-each : goal.invariant-loop-each
invariant-loop-each g l = record {
  room : 65600 ≤ string_capacity l.lines;
  epoch : l.epoch ≡ l.kept + l.each-index;
  front : WritesFront (g.W.Sink.contents l.fn.writer) (g.W.Sink.contents l.writer) (string_bytes l.fn.lines ++ placed_text l.kept l.submitted)
      (string_bytes l.lines ++ placed_text l.epoch (drop l.each-index l.submitted));
  fits : Each FitsLines (take l.each-index l.submitted);
}
