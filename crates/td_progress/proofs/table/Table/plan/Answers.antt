use Rattle.std.proofs.Common.{subst}
use Rattle.std.specs.List.{AllByRecursion}
use Rattle.td_reach.specs.Paths.{IsOf}
use Rattle.td_progress.specs.Held.{between}
use Rattle.td_progress.proofs.Times.{all_of_plan_marked}
use Rattle.td_progress.proofs.table.Table.plan.Goals as goal

pub returns-clause-each : goal.returns-clause-each
returns-clause-each c =
    let plan = c.self.inside.ways in
    let ks = c.self.inside.held in
    subst (λ a. AllByRecursion (IsOf a.plan) a.stamps) c.self.view_is (all_of_plan_marked plan (between plan ks) ks c.self.invariant.each)
