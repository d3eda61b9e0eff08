use Rattle.std.proofs.Common.{rules}
use Rattle.td_task.proofs.run.answer.Goals as goal

pub returns-in-Map-Messages-clause-sent : goal.returns-in-Map-Messages-clause-sent
returns-in-Map-Messages-clause-sent g c = search rules
