use Rattle.std.proofs.Common.{rules}
use Rattle.td_calls.proofs.stock.toggled.Goals as goal

pub returns-then-is_some : goal.returns-then-is_some
returns-then-is_some c = search rules
