use Rattle.std.proofs.Common.{rules}
use Rattle.td_batch.proofs.sent.is_repeat.Goals as goal

pub returns-in-Some : goal.returns-in-Some
returns-in-Some c = search rules
