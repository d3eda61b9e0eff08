use Rattle.std.proofs.Common.{◌≡◌, ◌++◌, flat_map}
use Rattle.td_slots.specs.Slot.{state_bytes, FitsState}
use Rattle.td_gate.specs.Reading.{Each}
use Rattle.td_slots.proofs.payload.push_states.Given as goal

abbrev pub invariant-loop-place : goal.invariant-loop-place
invariant-loop-place l = record {
  written : l.payload.items ++ flat_map state_bytes l.place-iterator ≡ l.fn.payload.items ++ flat_map state_bytes l.states;
  fits : Each FitsState l.place-iterator → Each FitsState l.states;
}
