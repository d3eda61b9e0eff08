use Rattle.std.proofs.Common.{sym, ap, ◌∙◌}
use Rattle.std.specs.Prelude.{option_map}
use Rattle.td_plan.specs.Steps.Reading.{is_stray_at}
use Rattle.td_plan.proofs.Listed.{found_at, none_more, none_whole}
use Rattle.td_plan.proofs.reader.first_stray.Goals as goal

pub returns-then-is_stray : goal.returns-then-is_stray
returns-then-is_stray c =
    sym (ap (option_map (λ f. f.line)) (found_at (λ f. is_stray_at c.args.scope.now.vertices f.number) c.args.feedbacks.now c.loop-feedback.feedback-index _ c.loop-feedback-test.true c.loop-feedback.invariant
    (sym c.is_stray.ensures ∙ c.if-is_stray.true)))

pub loop-feedback-preserved : goal.loop-feedback-preserved
loop-feedback-preserved c =
    none_more (λ f. is_stray_at c.args.scope.now.vertices f.number) c.args.feedbacks.now c.loop-feedback.feedback-index _ c.loop-feedback-test.true c.loop-feedback.invariant (sym c.is_stray.ensures ∙ c.if-is_stray.false)

pub returns : goal.returns
returns c = sym (ap (option_map (λ f. f.line)) (none_whole (λ f. is_stray_at c.args.scope.now.vertices f.number) c.args.feedbacks.now c.loop-feedback.feedback-index c.loop-feedback-test.false c.loop-feedback.invariant))
