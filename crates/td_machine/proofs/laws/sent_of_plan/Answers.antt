use Rattle.td_machine.proofs.Sends.{sent_of_plan}
use Rattle.td_machine.proofs.laws.sent_of_plan.Goals as goal

pub returns : goal.returns
returns c = sent_of_plan c.laws_below.ensures
