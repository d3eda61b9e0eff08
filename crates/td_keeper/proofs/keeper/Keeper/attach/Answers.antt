use Rattle.std.proofs.Common.{rules}
use Rattle.td_keeper.proofs.keeper.Keeper.attach.Goals as goal

pub returns-clause-attached : goal.returns-clause-attached
returns-clause-attached g c = search rules
