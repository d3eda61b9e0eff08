use Rattle.std.proofs.Common.{rules}
use Rattle.td_plan.proofs.plan.Plan.blocks.Goals as goal

pub returns : goal.returns
returns c = search rules
