use Rattle.std.proofs.Common.{◌≡◌, ◌++◌, map}
use Rattle.td_stamp.specs.Groups.{arrival_of}
use Rattle.td_batch.proofs.arrivals.push_arrivals.Given as goal

abbrev pub invariant-loop-rec : goal.invariant-loop-rec
invariant-loop-rec l = l.arrived.items ++ map (arrival_of l.port) l.rec-iterator ≡ l.initial.arrived.items ++ map (arrival_of l.port) l.records
