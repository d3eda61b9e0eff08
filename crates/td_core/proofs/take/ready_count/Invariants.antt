use Rattle.td_core.proofs.NextReady.{IsCounted}
use Rattle.td_core.proofs.take.ready_count.Given as goal

abbrev pub invariant-loop-stamp : goal.invariant-loop-stamp
invariant-loop-stamp l = IsCounted l.table l.waiting l.stamp-iterator l.count
