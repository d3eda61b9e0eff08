use Rattle.std.proofs.Common.{◌≡◌}
use Rattle.td_tests.proofs.watch_beside.read_often.Given as goal

abbrev pub invariant-loop : goal.invariant-loop
invariant-loop g l = l.reader.watch ≡ l.fn.reader.watch
