use Rattle.std.proofs.Common.{◌≡◌, ◌++◌, map}
use Rattle.td_stamp.specs.Groups.{rec_of}
use Rattle.td_batch.proofs.sent.records.Given as goal

abbrev pub invariant-loop-arrival : goal.invariant-loop-arrival
invariant-loop-arrival l = l.recs.items ++ map rec_of l.arrival-iterator ≡ map rec_of l.fn.arrived
