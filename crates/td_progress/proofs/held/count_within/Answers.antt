use Rattle.std.proofs.Common.{◌∙◌, subst, arith}
use Rattle.td_plan.specs.Faults.{IsPlan}
use Rattle.td_progress.proofs.Between.{between_le}
use Rattle.td_progress.proofs.Visits.{counted_all}
use Rattle.td_progress.proofs.held.count_within.Goals as goal

pub overflow_add-result : goal.overflow_add-result
overflow_add-result c =
    let plan = c.args.ways.now in
    let lawful = subst IsPlan (c.plan.ensures ∙ c.reach.ensures) c.vertices-plan.ensures.lawful in
    let all = counted_all plan (c.could_tested.ensures.could plan lawful) (c.could_tested.ensures.leads plan lawful) (c.could_leads.ensures.leads plan) (c.could_leads.ensures.has_place plan)
    c.args.class.now c.requires.class c.args.chains.now.entries c.requires.each c.requires.laid c.args.from c.args.upto in
    let most = between_le plan c.args.chains.now.entries c.args.class.now c.args.from c.args.upto in
    omega (arith, all, most, c.count_before-before.ensures, c.count_in_loops-in_loops.ensures, c.requires.fits)

pub returns : goal.returns
returns c =
    let plan = c.args.ways.now in
    let lawful = subst IsPlan (c.plan.ensures ∙ c.reach.ensures) c.vertices-plan.ensures.lawful in
    let all = counted_all plan (c.could_tested.ensures.could plan lawful) (c.could_tested.ensures.leads plan lawful) (c.could_leads.ensures.leads plan) (c.could_leads.ensures.has_place plan)
    c.args.class.now c.requires.class c.args.chains.now.entries c.requires.each c.requires.laid c.args.from c.args.upto in
    omega (arith, all, c.count_before-before.ensures, c.count_in_loops-in_loops.ensures)
