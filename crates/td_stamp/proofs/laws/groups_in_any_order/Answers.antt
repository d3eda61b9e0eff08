use Rattle.td_stamp.proofs.Parts.{groups-middle}
use Rattle.td_stamp.proofs.laws.groups_in_any_order.Goals as goal

pub returns : goal.returns
returns c = λ xs ys a. groups-middle xs a ys
