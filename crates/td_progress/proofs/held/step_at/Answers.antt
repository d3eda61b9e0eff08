use Rattle.std.proofs.Common.{sym, ap, ◌∙◌}
use Rattle.indexmap.specs.IndexMap.{set_value_at}
use Rattle.td_progress.specs.Held.{stepped}
use Rattle.td_progress.proofs.HeldSteps.{set_shifted, none_shifted, not_shifted}
use Rattle.td_progress.proofs.held.step_at.Goals as goal

pub returns-in-Some : goal.returns-in-Some
returns-in-Some c =
    let es = c.args.chains.now.entries in
    ap (set_value_at es c.args.index) c.step_from.ensures
    ∙ set_shifted c.args.ways.now c.args.class.now c.args.epoch (stepped c.args.step) es c.args.index c.in-Some.chain.now c.in-Some.ensures.value (sym c.leads_on.ensures ∙ c.if-leads_on.true)

pub returns-in_default : goal.returns-in_default
returns-in_default c =
    none_shifted c.args.ways.now c.args.class.now c.args.epoch (stepped c.args.step) c.args.chains.now.entries c.args.index c.in_default.ensures.value

pub returns-else-leads_on : goal.returns-else-leads_on
returns-else-leads_on c =
    not_shifted c.args.ways.now c.args.class.now c.args.epoch (stepped c.args.step) c.args.chains.now.entries c.args.index (sym c.leads_on.ensures ∙ c.if-leads_on.false)
