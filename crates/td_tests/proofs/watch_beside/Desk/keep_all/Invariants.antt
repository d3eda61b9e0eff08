use Rattle.std.proofs.Common.{◌≡◌}
use Rattle.td_tests.proofs.watch_beside.Desk.keep_all.Given as goal

abbrev pub invariant-loop-epoch : goal.invariant-loop-epoch
invariant-loop-epoch l = l.self ≡ l.fn.self
