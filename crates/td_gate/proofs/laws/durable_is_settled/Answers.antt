use Rattle.td_gate.proofs.Frame.{durable_settled}
use Rattle.td_gate.proofs.laws.durable_is_settled.Goals as goal

pub returns : goal.returns
returns g c d r durable = durable_settled (g.D.Disk.view d).state r durable
