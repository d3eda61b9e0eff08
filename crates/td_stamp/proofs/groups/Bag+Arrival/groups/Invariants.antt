use Rattle.std.proofs.Common.{◌≡◌}
use Rattle.td_stamp.specs.Groups.{runs}
use Rattle.td_stamp.proofs.groups.Bag+Arrival.groups.Given as goal

abbrev pub invariant-loop-arrival : goal.invariant-loop-arrival
invariant-loop-arrival l = l.groups.items ≡ runs l.yielded
