use Rattle.std.proofs.Common.{◌++◌, ap, codes, arith}
use Rattle.std.specs.Prelude.{flat_map, string_bytes}
use Rattle.td_gate.specs.Reading.{each_push}
use Rattle.td_report.specs.Dumped.{request_line, record_line, FitsLine}
use Rattle.td_report.proofs.Pieces.{front_line, front_end}
use Rattle.td_report.proofs.epoch_lines.write_epoch.Goals as goal

pub loop-entry-preserved : goal.loop-entry-preserved
loop-entry-preserved g c =
    let s = c.args.submitted.now in
    let so_far = c.loop-entry.invariant in
    record {
      room = omega (arith, c.make_room-in-loop-entry.ensures.room, c.print_record.ensures.capacity);
      front = front_line (g.W.Sink.contents c.args.writer.now) (g.W.Sink.contents c.loop-entry.writer) (g.W.Sink.contents c.make_room-in-loop-entry.new.writer)
          (string_bytes c.args.lines.now ++ (request_line s.request ++ flat_map record_line s.batch)) (string_bytes c.loop-entry.lines) (string_bytes c.make_room-in-loop-entry.new.lines) (string_bytes c.print_record.new.lines)
          (record_line c.in-Some.entry) (flat_map record_line c.next.new.self) (flat_map record_line c.loop-entry.entry-iterator) so_far.front (ap (flat_map record_line) c.in-Some.ensures.steps) c.in_ok-make_room-2.ensures.left c.print_record.ensures.bytes;
      fits = each_push FitsLine c.loop-entry.yielded c.in-Some.entry so_far.fits c.print_record.ensures.fits;
    }

pub returns-clause-left : goal.returns-clause-left
returns-clause-left g c =
    let s = c.args.submitted.now in
    front_end (g.W.Sink.contents c.args.writer.now) (g.W.Sink.contents c.loop-entry.writer) (g.W.Sink.contents c.make_room-2.new.writer)
    (string_bytes c.args.lines.now) (request_line s.request ++ flat_map record_line s.batch) (string_bytes c.loop-entry.lines) (string_bytes c.make_room-2.new.lines) (string_bytes c.push.new.lines) (codes ".\n")
    (flat_map record_line c.loop-entry.entry-iterator) c.loop-entry.invariant.front (ap (flat_map record_line) c.in-None.ensures.steps.0) c.in_ok-make_room-3.ensures.left c.push.ensures.bytes
