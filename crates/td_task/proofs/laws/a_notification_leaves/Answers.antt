use Rattle.std.proofs.Common.{ap, sym, ◌∙◌}
use Rattle.td_task.specs.Answered.{states_of, left_for}
use Rattle.td_task.proofs.Sends.{left}
use Rattle.td_task.proofs.laws.a_notification_leaves.Goals as goal

pub returns : goal.returns
returns g c task epoch vertex items e = left g.L.Law.answers task.kind epoch vertex items ∙ ap (λ x. left_for epoch vertex items (states_of g.L.Law.answers task.kind x)) (sym e)
