use Rattle.std.proofs.Common.{ap, ◌∙◌}
use Rattle.std.specs.List.{flat_map}
use Rattle.td_task.specs.Answered.{sent_of}
use Rattle.td_task.proofs.Sends.{sends}
use Rattle.td_task.proofs.laws.a_notification_sends.Goals as goal

pub returns : goal.returns
returns g c task items e = ap (λ x. flat_map (λ sent. sent) (sent_of g.L.Law.answers task.kind x)) e ∙ sends g.L.Law.answers task.kind items
