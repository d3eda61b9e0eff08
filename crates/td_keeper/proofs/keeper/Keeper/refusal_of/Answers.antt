use Rattle.std.proofs.Common.{rules}
use Rattle.td_keeper.proofs.keeper.Keeper.refusal_of.Goals as goal

pub returns-then-len-cells : goal.returns-then-len-cells
returns-then-len-cells g c = search rules
