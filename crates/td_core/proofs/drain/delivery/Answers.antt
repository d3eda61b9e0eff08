use Rattle.std.proofs.Common.{rules}
use Rattle.td_core.proofs.drain.delivery.Goals as goal

pub returns-in-Messages-clause-messages : goal.returns-in-Messages-clause-messages
returns-in-Messages-clause-messages c = search rules
