use Rattle.std.proofs.Common.{rules}
use Rattle.td_task.proofs.run.Answers.room.Goals as goal

pub returns-clause-records : goal.returns-clause-records
returns-clause-records c = search rules
