use Rattle.std.proofs.Common.{◌≡◌, drop}
use Rattle.td_core.proofs.cut.drop_first.Given as goal

abbrev pub invariant-loop-each : goal.invariant-loop-each
invariant-loop-each l = l.batches.items ≡ drop l._each l.fn.batches.items
