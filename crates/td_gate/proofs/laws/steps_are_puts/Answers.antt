use Rattle.td_gate.proofs.Frame.{closes_put, fills_put, opens_put}
use Rattle.td_gate.proofs.laws.steps_are_puts.Goals as goal

pub returns-clause-close : goal.returns-clause-close
returns-clause-close g c r payload old new one = let view = g.D.Disk.view in closes_put r payload (view old).state (view new).state one

pub returns-clause-fill : goal.returns-clause-fill
returns-clause-fill g c r payload old new one = let view = g.D.Disk.view in fills_put r payload (view old).state (view new).state one

pub returns-clause-open : goal.returns-clause-open
returns-clause-open g c r payload old new one = let view = g.D.Disk.view in opens_put r payload (view old).state (view new).state one
