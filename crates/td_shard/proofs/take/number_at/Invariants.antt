use Rattle.std.proofs.Common.{◌-◌, ◌<◌, ◌≤◌}
use Rattle.td_shard.specs.Order.{few}
use Rattle.td_shard.specs.Runs.{all_of}
use Rattle.td_shard.proofs.take.number_at.Given as goal

abbrev pub invariant-loop-high : goal.invariant-loop-high
invariant-loop-high l = record {
  ordered : l.low < l.high;
  low : few l.low (all_of l.runs.parts) ≤ l.pick;
  high : l.pick < few l.high (all_of l.runs.parts);
}

abbrev pub decreases-loop-high : goal.decreases-loop-high
decreases-loop-high l = l.high - l.low
