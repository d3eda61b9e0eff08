use Rattle.std.proofs.Common.{rules}
use Rattle.td_calls.proofs.stock.count.Goals as goal

pub returns : goal.returns
returns c = search rules
