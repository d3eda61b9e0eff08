use Rattle.td_plan.proofs.ReadThere.{read_there}
use Rattle.td_plan.proofs.laws.read_there.Goals as goal

pub returns : goal.returns
returns c = read_there
