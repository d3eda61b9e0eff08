use Rattle.std.proofs.Common.{◌≡◌, ◌++◌}
use Rattle.std.specs.Prelude.{flat_map, string_bytes}
use Rattle.td_gate.specs.Reading.{Each}
use Rattle.td_slots.specs.Slot.{FitsState}
use Rattle.td_states.specs.Lines.{state_line}
use Rattle.td_states.proofs.write.print_states.Given as goal

-- with the lines of the states that are left it is the text with all of them
abbrev pub invariant-loop-place : goal.invariant-loop-place
invariant-loop-place l = record {
  so_far : string_bytes l.text ++ flat_map state_line l.place-iterator ≡ string_bytes l.initial.text ++ flat_map state_line l.states;
  fits : Each FitsState l.place-iterator → Each FitsState l.states;
}
