use Rattle.std.proofs.Common.{rules}
use Rattle.td_keeper.proofs.keeper.Keeper.next_out.Goals as goal

pub returns-clause-none : goal.returns-clause-none
returns-clause-none g c = search rules
