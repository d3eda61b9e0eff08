use Rattle.td_machine.proofs.Sends.{turns_of_plan}
use Rattle.td_machine.proofs.laws.turns_of_plan.Goals as goal

pub returns : goal.returns
returns c = turns_of_plan c.laws_below.ensures
