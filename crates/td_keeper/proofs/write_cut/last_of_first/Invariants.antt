use Rattle.std.proofs.Common.{◌≡◌, take}
use Rattle.td_journal.specs.Numbers.{greatest}
use Rattle.td_keeper.proofs.write_cut.last_of_first.Given as goal

abbrev pub invariant-loop-each : goal.invariant-loop-each
invariant-loop-each l = l.greatest ≡ greatest l.last (take l.each l.submitted.items)
