use Rattle.std.proofs.Common.{◌≡◌, take}
use Rattle.std.specs.Prelude.{None, find}
use Rattle.td_plan.specs.Steps.Reading.{is_stray_at}
use Rattle.td_plan.proofs.reader.first_stray.Given as goal

abbrev pub invariant-loop-feedback : goal.invariant-loop-feedback
invariant-loop-feedback l = find (λ f. is_stray_at l.scope.vertices f.number) (take l.feedback-index l.feedbacks) ≡ None
