use Rattle.std.proofs.Common.{◌≡◌}
use Rattle.td_gate.specs.Fields.{front_in}
use Rattle.td_slots.proofs.Parsing.{Looked}
use Rattle.td_slots.proofs.payload.are_states.Given as goal

abbrev pub invariant-loop-i : goal.invariant-loop-i
invariant-loop-i l = record {
  count : l.i-end ≡ (front_in l.payload).count;
  looked : Looked l.folds l.i-end l.i l.payload l.last;
}
