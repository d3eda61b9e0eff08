use Rattle.std.proofs.Common.{◌≤◌, ◌++◌, take, drop}
use Rattle.std.specs.Prelude.{flat_map, string_bytes, string_capacity}
use Rattle.td_gate.specs.Reading.{Each}
use Rattle.td_report.specs.Dumped.{epoch_text, WritesFront, FitsLines}
use Rattle.td_report.proofs.epoch_lines.write_epochs.Given as goal

-- with the lines of the epochs that are left, what is held and what was written is all of them
abbrev pub invariant-loop-each : goal.invariant-loop-each
invariant-loop-each g l = record {
  room : 65600 ≤ string_capacity l.lines;
  front : WritesFront (g.W.Sink.contents l.fn.writer) (g.W.Sink.contents l.writer) (string_bytes l.fn.lines ++ flat_map epoch_text l.submitted)
      (string_bytes l.lines ++ flat_map epoch_text (drop l.each-index l.submitted));
  fits : Each FitsLines (take l.each-index l.submitted);
}
