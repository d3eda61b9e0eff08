use Rattle.std.proofs.Common.{◌≡◌, IfErr, All}
use Rattle.td_calls.specs.Fits.{lacking_code}
use Rattle.td_workers.specs.Ended.{MayRefuse}
use Rattle.td_workers.proofs.workers.join_all.Given as goal

-- those that were joined ended by these closures, and so do the others
abbrev pub invariant-loop-worker : goal.invariant-loop-worker
invariant-loop-worker g l =
    IfErr l.ended (MayRefuse (lacking_code (g.C.Closures.stored l.calls)))
    × All (λ worker. worker.promise.calls.value ≡ l.calls) l.worker-iterator.rest.items
