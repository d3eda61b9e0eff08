use Rattle.std.proofs.Common.{◌≡◌, ◌++◌, map}
use Rattle.td_stamp.specs.Orders.{rec_cmp}
use Rattle.td_stamp.specs.Bag.{bag_of}
use Rattle.td_batch.proofs.rounds.push_collected.Given as goal

abbrev pub invariant-loop-each : goal.invariant-loop-each
invariant-loop-each l = l.bags.items ≡ l.initial.bags.items ++ map (bag_of rec_cmp) l.yielded
