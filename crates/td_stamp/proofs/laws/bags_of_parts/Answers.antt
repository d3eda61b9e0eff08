use Rattle.td_stamp.proofs.Parts.{bag_of-flat_map-bag_insert}
use Rattle.td_stamp.proofs.laws.bags_of_parts.Goals as goal

pub returns : goal.returns
returns g c =
    bag_of-flat_map-bag_insert g.T.Ord.cmp g.met.T.Ord.total g.met.T.Member.told_apart g.U.Ord.cmp g.met.U.Ord.total g.met.U.Member.told_apart
