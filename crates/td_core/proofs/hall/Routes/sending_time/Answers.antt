use Rattle.std.proofs.Common.{rules}
use Rattle.td_core.proofs.hall.Routes.sending_time.Goals as goal

pub returns-in-Feedback : goal.returns-in-Feedback
returns-in-Feedback c = search rules
