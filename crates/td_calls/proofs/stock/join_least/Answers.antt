use Rattle.std.proofs.Common.{rules}
use Rattle.td_calls.proofs.stock.join_least.Goals as goal

pub returns-in-Some-Some : goal.returns-in-Some-Some
returns-in-Some-Some c = search rules
