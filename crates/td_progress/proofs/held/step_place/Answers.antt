use Rattle.std.proofs.Common.{ap, ◌∙◌}
use Rattle.indexmap.specs.IndexMap.{set_value_at}
use Rattle.td_progress.specs.Held.{stepped}
use Rattle.td_progress.proofs.HeldSteps.{set_changed, none_changed}
use Rattle.td_progress.proofs.held.step_place.Goals as goal

pub returns-in-Some : goal.returns-in-Some
returns-in-Some c =
    let es = c.args.chains.now.entries in
    ap (set_value_at es c.args.index) c.step_from.ensures ∙ set_changed c.args.epoch (stepped c.args.step) es c.args.index c.in-Some.chain.now c.in-Some.ensures.value

pub returns-in_default : goal.returns-in_default
returns-in_default c = none_changed c.args.epoch (stepped c.args.step) c.args.chains.now.entries c.args.index c.in_default.ensures.value
