use Rattle.std.proofs.Common.{◌-◌, length, arith}
use Rattle.td_plan.specs.Blocks.{edges}
use Rattle.td_progress.proofs.Rows.{some_within}
use Rattle.td_progress.proofs.ways.place_at.Goals as goal

pub returns-else-number-vertices-clause-there : goal.returns-else-number-vertices-clause-there
returns-else-number-vertices-clause-there c =
    let plan = c.args.reach.now in
    some_within (edges plan) (c.args.number - length c.vertices.result.now) (grind arith)
