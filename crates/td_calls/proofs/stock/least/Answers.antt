use Rattle.std.proofs.Common.{rules}
use Rattle.td_calls.proofs.stock.least.Goals as goal

pub returns-in-Some : goal.returns-in-Some
returns-in-Some c = search rules
