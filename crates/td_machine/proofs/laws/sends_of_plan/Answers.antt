use Rattle.td_machine.proofs.Sends.{tasks_of_plan}
use Rattle.td_machine.proofs.laws.sends_of_plan.Goals as goal

pub returns : goal.returns
returns g c = tasks_of_plan c.laws_below.ensures g.L.Law.answers
