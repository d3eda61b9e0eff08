use Rattle.std.proofs.Common.{◌∙◌, ap, map}
use Rattle.td_stamp.specs.Bag.{bag_of}
use Rattle.td_stamp.proofs.Packing.{sorted_as_numbers}
use Rattle.td_stamp.proofs.bag.sort_as_numbers.Goals as goal

pub returns : goal.returns
returns g c =
    let first = c.index-members-0.result in
    c.unpack_all.ensures ∙ ap (map (g.T.Member.of_number first)) c.as_slice.ensures.value
    ∙ sorted_as_numbers g.T.Ord.cmp g.met.T.Ord.total g.met.T.Member.told_apart (g.T.Member.of_number first) (g.met.T.Member.rises first)
    c.in-Some.numbers.items c.sort_unstable.new.self.items c.sort_unstable.ensures.permutation c.sort_unstable.ensures.sorted
    ∙ ap (bag_of g.T.Ord.cmp) c.in-Some.ensures
