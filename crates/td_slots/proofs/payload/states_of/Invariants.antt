use Rattle.std.proofs.Common.{◌≡◌, ◌++◌}
use Rattle.td_gate.specs.Fields.{front_in}
use Rattle.td_slots.specs.Slot.{states_in}
use Rattle.td_slots.proofs.Parsing.{left}
use Rattle.td_slots.proofs.payload.states_of.Given as goal

abbrev pub invariant-loop-i : goal.invariant-loop-i
invariant-loop-i l = record {
  count : l.i-end ≡ (front_in l.payload).count;
  read : states_in l.payload ≡ l.states ++ left l.i-end l.i l.payload;
}
