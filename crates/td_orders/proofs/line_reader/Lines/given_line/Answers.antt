use Rattle.td_orders.proofs.Lines.{found}
use Rattle.td_orders.proofs.line_reader.Lines.given_line.Goals as goal

pub returns-then-end : goal.returns-then-end
returns-then-end g c = found (g.I.Source.remaining c.args.self.now.reader) c.args.self.now.unread c.in_ok-end.end c.in_ok-end.ensures.some
