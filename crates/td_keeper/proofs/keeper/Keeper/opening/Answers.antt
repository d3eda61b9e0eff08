use Rattle.std.proofs.Common.{ap}
use Rattle.td_keeper.proofs.keeper.Keeper.opening.Goals as goal

pub returns-clause-epoch : goal.returns-clause-epoch
returns-clause-epoch g c = ap (λ k. k.standing.epoch) c.self.view_is
