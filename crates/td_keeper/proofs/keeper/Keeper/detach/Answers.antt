use Rattle.std.proofs.Common.{rules}
use Rattle.td_keeper.proofs.keeper.Keeper.detach.Goals as goal

pub returns-clause-before : goal.returns-clause-before
returns-clause-before g c = search rules

pub returns-clause-detached : goal.returns-clause-detached
returns-clause-detached g c = search rules
