use Rattle.td_machine.proofs.OfPlan.{active_of_plan}
use Rattle.td_machine.proofs.laws.active_of_plan.Goals as goal

pub returns : goal.returns
returns g c = active_of_plan c.laws_below.ensures g.L.Law.answers
