use Rattle.td_plan.proofs.Trees.{vertices_read}
use Rattle.td_plan.proofs.laws.sources.Goals as goal

pub returns : goal.returns
returns c = vertices_read
