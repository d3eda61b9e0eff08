use Rattle.td_stamp.proofs.Parts.{groups-of_bag}
use Rattle.td_stamp.proofs.laws.groups_of_a_bag.Goals as goal

pub returns : goal.returns
returns c = groups-of_bag
