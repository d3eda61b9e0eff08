use Rattle.std.specs.Io.KnownBytes.{Keeps}
use Rattle.td_orders.specs.Lines.{unread}
use Rattle.td_orders.proofs.line_reader.Lines.next_line.Given as goal

-- nothing of the input is lost
abbrev pub invariant-loop-read : goal.invariant-loop-read
invariant-loop-read g l = Keeps (unread (g.I.Source.remaining l.fn.self.reader) l.fn.self.unread) (unread (g.I.Source.remaining l.self.reader) l.self.unread)
