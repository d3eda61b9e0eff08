use Rattle.std.proofs.Common.{◌≡◌, map, take}
use Rattle.td_stamp.proofs.bag.pack_all.Given as goal

abbrev pub invariant-loop-member : goal.invariant-loop-member
invariant-loop-member g l = map (g.T.Member.of_number l.first) l.numbers.items ≡ take l.member-index l.members
