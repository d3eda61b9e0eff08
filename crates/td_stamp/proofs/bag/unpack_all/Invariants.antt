use Rattle.std.proofs.Common.{◌≡◌, map, take}
use Rattle.td_stamp.proofs.bag.unpack_all.Given as goal

abbrev pub invariant-loop-i : goal.invariant-loop-i
invariant-loop-i g l = take l.i l.members ≡ map (g.T.Member.of_number l.first) (take l.i l.numbers)
