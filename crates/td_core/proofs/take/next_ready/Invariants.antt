use Rattle.td_core.proofs.NextReady.{IsFirstSoFar}
use Rattle.td_core.proofs.take.next_ready.Given as goal

abbrev pub invariant-loop-stamp : goal.invariant-loop-stamp
invariant-loop-stamp l = IsFirstSoFar l.table l.waiting l.stamp-iterator l.after l.first
