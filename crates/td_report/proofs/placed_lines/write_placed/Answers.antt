use Rattle.std.specs.Prelude.{string_bytes}
use Rattle.std.proofs.lemmas.Result.{on_ok_weaker}
use Rattle.td_report.specs.Dumped.{place_line, epoch_text}
use Rattle.td_report.proofs.Pieces.{front_first}
use Rattle.td_report.proofs.placed_lines.write_placed.Goals as goal

pub returns-clause-left : goal.returns-clause-left
returns-clause-left g c =
    on_ok_weaker c.write_epoch.result
    (λ left.
    front_first (g.W.Sink.contents c.args.writer.now) (g.W.Sink.contents c.make_room.new.writer) (g.W.Sink.contents c.write_epoch.new.writer)
    (string_bytes c.args.lines.now) (string_bytes c.make_room.new.lines) (string_bytes c.print_place.new.lines) (place_line c.args.epoch) (epoch_text c.args.submitted.now) (string_bytes c.write_epoch.new.lines)
    c.in_ok-make_room.ensures.left c.print_place.ensures.bytes left)
    c.write_epoch.ensures.left
