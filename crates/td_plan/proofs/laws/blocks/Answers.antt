use Rattle.td_plan.proofs.Alike.{plan_alike}
use Rattle.td_plan.proofs.Standing.{plan_stands, loops_begin}
use Rattle.td_plan.proofs.laws.blocks.Goals as goal

pub returns-clause-among : goal.returns-clause-among
returns-clause-among c plan lawful = plan_stands plan

pub returns-clause-begun : goal.returns-clause-begun
returns-clause-begun c = loops_begin

pub returns-clause-alike : goal.returns-clause-alike
returns-clause-alike c = plan_alike
