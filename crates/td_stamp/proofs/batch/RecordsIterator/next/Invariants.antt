use Rattle.std.proofs.Common.{◌≡◌, length}
use Rattle.td_stamp.specs.Batch.{records_for}
use Rattle.td_stamp.proofs.batch.RecordsIterator.next.Given as goal

abbrev pub invariant-loop-entry : goal.invariant-loop-entry
invariant-loop-entry l = records_for l.self-inside.input l.self-inside.entries ≡ records_for l.initial.self-inside.input l.initial.self-inside.entries

abbrev pub decreases-loop-entry : goal.decreases-loop-entry
decreases-loop-entry l = length l.self-inside.entries
