use Rattle.std.proofs.Common.{rules}
use Rattle.td_calls.proofs.stock.next_key.Goals as goal

pub returns : goal.returns
returns c = search rules
