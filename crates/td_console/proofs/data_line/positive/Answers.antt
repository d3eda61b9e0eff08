use Rattle.td_console.proofs.PlainLines.{positive_front}
use Rattle.td_console.proofs.data_line.positive.Goals as goal

pub returns : goal.returns
returns c = positive_front c.args.bytes.now c.in_ok-number.number c.in_ok-number.rest.now c.in_ok-number.ensures
