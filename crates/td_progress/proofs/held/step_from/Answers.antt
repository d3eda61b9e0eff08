use Rattle.std.proofs.Common.{◌-◌, length, ap, ◌∙◌, subst, arith}
use Rattle.std.specs.List.{range_with_len}
use Rattle.td_plan.specs.Faults.{IsPlan}
use Rattle.td_progress.specs.declared.ways.Side.TheVariants as sides
use Rattle.td_progress.specs.Ways.{places_of, number_of, row}
use Rattle.td_progress.specs.Held.{stepped, all_shifted_at}
use Rattle.td_progress.proofs.Visits.{steps_long, stepped_all, all_long}
use Rattle.td_progress.proofs.held.step_from.Goals as goal

pub step_in_loops-requires-clause-laid : goal.step_in_loops-requires-clause-laid
step_in_loops-requires-clause-laid c =
    let plan = c.args.ways.now in
    let k = c.args.class.now in
    let ks = c.args.chains.now.entries in
    let same = ap length c.step_after.ensures.entries ∙ steps_long plan k c.args.epoch (stepped c.args.step) (row plan sides.After (number_of plan k.place)) ks in
    let long = all_long plan ks c.requires.laid in
    omega (arith, same, long)

pub returns : goal.returns
returns c =
    let plan = c.args.ways.now in
    let k = c.args.class.now in
    let ks = c.args.chains.now.entries in
    let f = stepped c.args.step in
    let is = row plan sides.After (number_of plan k.place) in
    let same = ap length c.step_after.ensures.entries ∙ steps_long plan k c.args.epoch f is ks in
    let lawful = subst IsPlan (c.plan.ensures ∙ c.reach.ensures) c.vertices-plan.ensures.lawful in
    c.step_in_loops.ensures
    ∙ ((λ i. all_shifted_at plan k c.args.epoch f (range_with_len (places_of plan) (same i - places_of plan)) (c.step_after.ensures.entries i))
    ∙ stepped_all plan (c.could_tested.ensures.could plan lawful) (c.could_tested.ensures.leads plan lawful) (c.could_leads.ensures.leads plan) (c.could_leads.ensures.has_place plan)
    k c.requires.class ks c.requires.each c.requires.laid c.args.epoch f)
