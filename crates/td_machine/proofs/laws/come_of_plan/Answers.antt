use Rattle.td_machine.proofs.Sends.{come_of_plan}
use Rattle.td_machine.proofs.laws.come_of_plan.Goals as goal

pub returns : goal.returns
returns g c = come_of_plan c.laws_below.ensures g.L.Law.answers
