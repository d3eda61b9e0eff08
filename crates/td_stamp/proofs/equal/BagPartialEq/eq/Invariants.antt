use Rattle.std.proofs.Common.{◌≡◌, ◌++◌}
use Rattle.td_stamp.proofs.equal.BagPartialEq.eq.Given as goal

abbrev pub invariant-loop-mine : goal.invariant-loop-mine
invariant-loop-mine g l = l.other ≡ l.yielded ++ l.theirs
