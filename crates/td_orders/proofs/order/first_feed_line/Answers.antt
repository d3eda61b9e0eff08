use Rattle.td_orders.proofs.PlainLines.{first_plain}
use Rattle.td_orders.proofs.order.first_feed_line.Goals as goal

pub returns-in-Some : goal.returns-in-Some
returns-in-Some c = first_plain c.args.bytes.now c.in-Some.others.now c.in-Some.input c.in-Some.rec c.in-Some.ensures
