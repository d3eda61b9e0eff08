use Rattle.td_stamp.proofs.AnyOrder.{bag_laws}
use Rattle.td_stamp.proofs.laws.bags_by_any_order.Goals as goal

pub returns : goal.returns
returns g c = bag_laws
