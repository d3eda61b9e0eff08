use Rattle.std.proofs.Common.{◌≡◌, take}
use Rattle.td_stamp.specs.Bag.{bag_of, members}
use Rattle.td_stamp.proofs.repeats.counted.Given as goal

abbrev pub invariant-loop-member : goal.invariant-loop-member
invariant-loop-member g l = members l.counts.entries ≡ bag_of g.T.Ord.cmp (take l.member-index l.list)
