use Rattle.td_plan.proofs.Laid.{plan_laid}
use Rattle.td_plan.proofs.laws.laid.Goals as goal

pub returns : goal.returns
returns c = plan_laid
