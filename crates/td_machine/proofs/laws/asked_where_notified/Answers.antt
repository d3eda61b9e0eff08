use Rattle.td_machine.proofs.AsksNotified.{asked_notified}
use Rattle.td_machine.proofs.laws.asked_where_notified.Goals as goal

pub returns : goal.returns
returns g c = asked_notified c.laws_below.ensures g.L.Law.answers
