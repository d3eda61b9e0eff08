use Rattle.std.proofs.Common.{sym}
use Rattle.td_console.proofs.Cuts.{first_cut, whole_line}
use Rattle.td_console.proofs.parts.first_line.Goals as goal

pub returns-then-end-bytes-clause-lines : goal.returns-then-end-bytes-clause-lines
returns-then-end-bytes-clause-lines c = first_cut c.args.bytes.now c.line_end-end.result c.line_end-end.ensures.place c.if-end-bytes.true

pub returns-clause-lines : goal.returns-clause-lines
returns-clause-lines c = whole_line c.args.bytes.now c.line_end-end.result c.line_end-end.ensures.place c.line_end-end.ensures.bound c.if-end-bytes.false (sym c.if-is_empty.ensures)
