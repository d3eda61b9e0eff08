use Rattle.std.proofs.Common.{◌≤◌, ◌++◌}
use Rattle.std.specs.Prelude.{flat_map, string_bytes, string_capacity}
use Rattle.td_gate.specs.Reading.{Each}
use Rattle.td_report.specs.Dumped.{request_line, record_line, WritesFront, FitsLine}
use Rattle.td_report.proofs.epoch_lines.write_epoch.Given as goal

-- with the lines of the records that are left, what is held and what was written is all of them
abbrev pub invariant-loop-entry : goal.invariant-loop-entry
invariant-loop-entry g l = record {
  room : 65600 ≤ string_capacity l.lines;
  front : WritesFront (g.W.Sink.contents l.fn.writer) (g.W.Sink.contents l.writer) (string_bytes l.fn.lines ++ (request_line l.submitted.request ++ flat_map record_line l.submitted.batch))
      (string_bytes l.lines ++ flat_map record_line l.entry-iterator);
  fits : Each FitsLine l.yielded;
}
