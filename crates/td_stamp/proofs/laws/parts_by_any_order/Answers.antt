use Rattle.td_stamp.proofs.Parts.{bag_of-flat_map-bag_insert}
use Rattle.td_stamp.proofs.laws.parts_by_any_order.Goals as goal

pub returns : goal.returns
returns g c = bag_of-flat_map-bag_insert
