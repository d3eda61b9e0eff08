use Rattle.std.proofs.Common.{◌≡◌, ◌+◌, drop}
use Rattle.std.specs.Prelude.{None}
use Rattle.td_task.specs.Arriving.{keys_after}
use Rattle.td_task.proofs.keyed.key_count.Given as goal

abbrev pub invariant-loop-arrival : goal.invariant-loop-arrival
invariant-loop-arrival l = l.count + keys_after l.last (drop l.arrival-index l.arrivals) ≡ keys_after None l.arrivals
