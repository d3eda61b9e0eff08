use Rattle.std.proofs.Common.{◌≡◌, ◌++◌, map}
use Rattle.std.specs.Prelude.{None}
use Rattle.td_stamp.specs.Orders.{rec_cmp}
use Rattle.td_stamp.specs.Bag.{bag_of}
use Rattle.td_stamp.specs.Groups.{rec_of}
use Rattle.td_batch.specs.Steps.Sent.{once_after}
use Rattle.td_batch.proofs.sent.distinct.Given as goal

abbrev pub invariant-loop-rec : goal.invariant-loop-rec
invariant-loop-rec l = l.sent.items ++ once_after l.last l.rec-iterator ≡ once_after None (bag_of rec_cmp (map rec_of l.fn.arrived))
