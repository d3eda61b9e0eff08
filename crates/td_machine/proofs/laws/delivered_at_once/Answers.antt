use Rattle.td_machine.proofs.AtOnce.{delivered_at_once}
use Rattle.td_machine.proofs.laws.delivered_at_once.Goals as goal

pub returns : goal.returns
returns g c = delivered_at_once c.laws_below.ensures g.L.Law.answers
