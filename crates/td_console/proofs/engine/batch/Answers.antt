use Rattle.std.proofs.Common.{rules}
use Rattle.td_console.proofs.engine.batch.Goals as goal

pub returns-clause-output : goal.returns-clause-output
returns-clause-output g c = search rules
