use Rattle.td_machine.specs.State.{left_cmp}
use Rattle.td_shard.proofs.LeftOrders.{left_total, left_apart}
use Rattle.td_shard.proofs.versions.version_laws.Goals as goal

pub returns : goal.returns
returns c = c.bags_by_any_order.ensures left_cmp left_total left_apart
