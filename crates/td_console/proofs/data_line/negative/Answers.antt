use Rattle.td_console.proofs.PlainLines.{negative_front}
use Rattle.td_console.proofs.data_line.negative.Goals as goal

pub returns : goal.returns
returns c = negative_front c.args.digits.now c.in_ok-number.number c.in_ok-number.rest.now c.in_ok-number.ensures c.if-number-eq0.false
