use Rattle.std.proofs.Common.{◌≡◌, All}
use Rattle.td_workers.proofs.workers.start_all.Given as goal

-- each worker that was started ends by these closures
abbrev pub invariant-loop-seat : goal.invariant-loop-seat
invariant-loop-seat g l = All (λ worker. worker.promise.calls.value ≡ l.calls) l.workers.items
