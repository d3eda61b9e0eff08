use Rattle.std.proofs.Common.{◌≡◌, ◌+◌, ◌-◌, ◌≤◌, map, filter, vec_len, vec_capacity}
use Rattle.td_batch.specs.Flow.{numbers_from}
use Rattle.td_core.specs.Came.{out_of}
use Rattle.td_core.proofs.Taken.{stays}
use Rattle.td_core.proofs.collect.take_after.Given as goal

abbrev pub invariant-loop-epoch : goal.invariant-loop-epoch
invariant-loop-epoch l = record {
  outs : l.outs.items ≡ map (out_of l.fn.outputs) (numbers_from (l.after + 1) (l.epoch - l.after));
  outputs : l.outputs ≡ filter (stays l.after (l.epoch + 1)) l.fn.outputs;
  room : vec_len l.outs + (l.last - l.epoch) ≤ vec_capacity l.outs;
}
