use Rattle.std.proofs.Common.{◌≡◌, ◌<◌, length, slice_index_or, sym, ap, ◌∙◌, subst, arith}
use Rattle.std.specs.List.{AllByRecursion}
use Rattle.std.specs.Map.{keys_of}
use Rattle.td_plan.specs.Faults.{IsPlan}
use Rattle.td_progress.specs.declared.ways.Side.TheVariants as sides
use Rattle.td_progress.specs.Ways.{number_of, row}
use Rattle.td_progress.specs.Held.{stepped, shifted_at, IsOfPlan, IsLaidOut}
use Rattle.td_progress.proofs.Visits.{steps_more, step_of_plan, keys_shifted_at, reached_step}
use Rattle.td_progress.proofs.held.step_after.Goals as goal

pub loop-number-preserved : goal.loop-number-preserved
loop-number-preserved c =
    let plan = c.args.ways.now in
    let k = c.args.class.now in
    let e = c.args.epoch in
    let f = stepped c.args.step in
    let i = c.loop-number.number-index in
    let x = c.from.result in
    let ks = c.loop-number.chains.entries in
    let is = row plan sides.After (number_of plan k.place) in
    let within : i < length is = omega (arith, c.loop-number-test.true, ap length c.row-number-items.ensures) in
    let at : slice_index_or is i 0 ≡ x = ap (λ xs. slice_index_or xs i 0) (sym c.row-number-items.ensures) ∙ sym c.from.ensures in
    let lawful = subst IsPlan (c.plan.ensures ∙ c.reach.ensures) c.vertices-plan.ensures.lawful in
    let stepped_is = c.step_place.ensures
    ∙ reached_step plan (c.could_tested.ensures.could plan lawful) (c.could_tested.ensures.leads plan lawful) (c.could_leads.ensures.has_place plan) (c.in_no_loop.ensures plan lawful)
    k c.requires.class ks c.loop-number.invariant.each c.loop-number.invariant.laid e f i x c.requires.zeroth within at in
    record {
      entries = stepped_is ∙ (ap (shifted_at plan k e f x) c.loop-number.invariant.entries ∙ steps_more plan k e f is i x within at c.args.chains.now.entries);
      each = subst (AllByRecursion (IsOfPlan plan)) (sym stepped_is) (step_of_plan plan k e f x ks c.loop-number.invariant.each);
      laid = subst (λ js. IsLaidOut plan (keys_of js)) (sym stepped_is) (subst (IsLaidOut plan) (sym (keys_shifted_at plan k e f x ks)) c.loop-number.invariant.laid);
    }
