use Rattle.std.proofs.Common.{◌≡◌, ◌+◌, map, take, drop, length}
use Rattle.td_c.specs.Rows.{state_row}
use Rattle.td_c.proofs.output.put_states.Given as goal

abbrev pub invariant-loop-place : goal.invariant-loop-place
invariant-loop-place l = record {
  count : l.at ≡ length l.yielded;
  rest : length l.yielded + length l.place-iterator ≡ length l.states;
  written : take l.at l.rows ≡ map state_row l.yielded;
  others : drop (length l.states) l.rows ≡ drop (length l.states) l.initial.rows;
}
