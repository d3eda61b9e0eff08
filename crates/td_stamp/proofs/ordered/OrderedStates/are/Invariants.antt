use Rattle.std.proofs.Common.{◌≡◌, ◌++◌}
use Rattle.td_stamp.proofs.ordered.OrderedStates.are.Given as goal

abbrev pub invariant-loop-own : goal.invariant-loop-own
invariant-loop-own l = l.other ≡ l.yielded ++ l.others
