use Rattle.td_plan.proofs.StandsWell.{tree_stands}
use Rattle.td_plan.proofs.laws.stands_well.Goals as goal

pub returns : goal.returns
returns c = tree_stands
