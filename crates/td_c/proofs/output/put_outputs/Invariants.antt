use Rattle.std.proofs.Common.{◌≡◌, ◌+◌, map, take, drop, length}
use Rattle.td_c.specs.Rows.{output_row}
use Rattle.td_c.proofs.output.put_outputs.Given as goal

abbrev pub invariant-loop-output : goal.invariant-loop-output
invariant-loop-output l = record {
  count : l.at ≡ length l.yielded;
  rest : length l.yielded + length l.output-iterator ≡ length l.outputs;
  written : take l.at l.rows ≡ map output_row l.yielded;
  others : drop (length l.outputs) l.rows ≡ drop (length l.outputs) l.initial.rows;
}
