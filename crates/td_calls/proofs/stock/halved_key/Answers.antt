use Rattle.std.proofs.Common.{rules}
use Rattle.td_calls.proofs.stock.halved_key.Goals as goal

pub returns : goal.returns
returns c = search rules
