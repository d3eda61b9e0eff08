use Rattle.std.proofs.Common.{sym, ◌∙◌}
use Rattle.td_plan.specs.Inputs.{is_input_of}
use Rattle.td_plan.proofs.Listed.{all_passed, one_failed}
use Rattle.td_plan.proofs.plan.Plan.accepts.Goals as goal

pub returns-then-not-is_input : goal.returns-then-not-is_input
returns-then-not-is_input c =
    one_failed (λ e. is_input_of c.args.self.now e.input) c.args.batch.now c.loop-entry.yielded c.into_iter-entry-iterator.result c.loop-entry.entry-iterator c.next.new.self c.in-Some.entry
    (c.into_iter-entry-iterator.ensures.into_iter_gives ∙ c.list-entry-items.ensures.all) c.loop-entry.yielded_by c.in-Some.ensures.steps (sym c.is_input.ensures ∙ c.if-not-is_input.true)

pub returns : goal.returns
returns c =
    all_passed (λ e. is_input_of c.args.self.now e.input) c.args.batch.now c.loop-entry.yielded c.into_iter-entry-iterator.result c.loop-entry.entry-iterator (c.into_iter-entry-iterator.ensures.into_iter_gives ∙ c.list-entry-items.ensures.all)
    c.loop-entry.yielded_by c.in-None.ensures.steps.0 c.loop-entry.invariant.2
