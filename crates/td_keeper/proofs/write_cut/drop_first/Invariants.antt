use Rattle.std.proofs.Common.{◌≡◌, drop}
use Rattle.td_keeper.proofs.write_cut.drop_first.Given as goal

abbrev pub invariant-loop-each : goal.invariant-loop-each
invariant-loop-each l = l.submitted.items ≡ drop l._each l.fn.submitted.items
