use Rattle.std.proofs.Common.{◌≡◌, ◌++◌, flat_map}
use Rattle.td_journal.specs.Cell.{entry_bytes, FitsEntry}
use Rattle.td_gate.specs.Reading.{Each}
use Rattle.td_journal.proofs.payload.push_entries.Given as goal

abbrev pub invariant-loop-entry : goal.invariant-loop-entry
invariant-loop-entry l = record {
  written : l.payload.items ≡ l.fn.payload.items ++ flat_map entry_bytes l.yielded;
  fits : Each FitsEntry l.yielded;
}
