use Rattle.td_plan.proofs.Placed.{tree_placed}
use Rattle.td_plan.proofs.laws.well_placed.Goals as goal

pub returns : goal.returns
returns c = tree_placed
