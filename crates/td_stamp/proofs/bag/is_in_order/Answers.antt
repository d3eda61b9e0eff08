use Rattle.td_stamp.proofs.Packing.{in_order}
use Rattle.td_stamp.proofs.bag.is_in_order.Goals as goal

pub returns : goal.returns
returns g c = in_order g.T.Ord.cmp g.met.T.Ord.total g.met.T.Member.told_apart g.T.PartialOrd.partial_cmp g.met.T.Ord.matches_partial_cmp c.args.members.now c.is_sorted.result c.is_sorted.ensures.cases
