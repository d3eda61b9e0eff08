use Rattle.std.proofs.Common.{◌≡◌, ◌++◌}
use Rattle.td_stamp.proofs.bag.append.Given as goal

abbrev pub invariant-loop-member : goal.invariant-loop-member
invariant-loop-member g l = l.list.items ≡ l.initial.list.items ++ l.yielded
