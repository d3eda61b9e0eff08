use Rattle.td_stamp.proofs.AnyOrder.{set_laws}
use Rattle.td_stamp.proofs.laws.sets_by_any_order.Goals as goal

pub returns : goal.returns
returns g c = set_laws
