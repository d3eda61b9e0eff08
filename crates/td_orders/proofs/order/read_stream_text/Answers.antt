use Rattle.td_orders.proofs.PlainLines.{plain_in_stream}
use Rattle.td_orders.proofs.order.read_stream_text.Goals as goal

pub returns-in-Some-clause-ok : goal.returns-in-Some-clause-ok
returns-in-Some-clause-ok c = plain_in_stream c.args.placing c.args.hold c.args.questions c.args.copies c.args.text.now _ _ _ c.in-Some.ensures
