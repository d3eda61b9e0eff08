use Rattle.std.proofs.Common.{◌∙◌, ap, fold}
use Rattle.td_batch.specs.Changes.{with_change}
use Rattle.td_batch.proofs.evaluator.Evaluator.epoch.Goals as goal

pub returns-clause-states : goal.returns-clause-states
returns-clause-states g c =
    c.in_ok-keep_all.ensures ∙ ap (fold with_change c.args.states.now) c.as_slice.ensures.value ∙ c.in_ok-outputs.ensures.states
