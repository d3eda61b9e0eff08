use Rattle.std.proofs.Common.{◌≡◌, ◌+◌, ◌-◌, ◌≤◌, ◌++◌, length, map, take, vec_len, vec_capacity}
use Rattle.td_core.specs.Came.{output_of}
use Rattle.td_core.proofs.collect.push_outputs.Given as goal

abbrev pub invariant-loop-rec : goal.invariant-loop-rec
invariant-loop-rec l = record {
  items : l.outputs.items ≡ l.fn.outputs.items ++ map (output_of l.vertex) (take l.rec-index l.recs);
  room : vec_len l.outputs + (length l.recs - l.rec-index) ≤ vec_capacity l.outputs;
}
