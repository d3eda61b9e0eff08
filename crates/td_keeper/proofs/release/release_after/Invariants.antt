use Rattle.std.proofs.Common.{◌≡◌, ◌-◌, take, drop}
use Rattle.td_store.specs.standing.Standing.{batches_of}
use Rattle.td_keeper.specs.Halls.{with_released}
use Rattle.td_keeper.proofs.release.release_after.Given as goal

-- those so far were released
abbrev pub invariant-loop-at : goal.invariant-loop-at
invariant-loop-at g l = record {
  count : l.released ≡ l.at - l.has;
  hall : g.H.AnyHall.state l.hall ≡ with_released (g.H.AnyHall.state l.fn.hall) (batches_of (take (l.at - l.has) (drop l.has l.submitted.items)));
}
