use Rattle.std.proofs.Common.{◌≡◌}
use Rattle.td_tests.proofs.watch.read_often.Given as goal

abbrev pub invariant-loop : goal.invariant-loop
invariant-loop l = l.reader.watch ≡ l.fn.reader.watch
