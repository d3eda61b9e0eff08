use Rattle.std.proofs.Common.{◌≡◌, ◌+◌, ◌-◌, ◌<◌, length, take, drop}
use Rattle.td_shard.specs.Order.{at_number}
use Rattle.td_shard.specs.Runs.{all_of}
use Rattle.td_shard.proofs.take.place_at.Given as goal

abbrev pub invariant-loop-left : goal.invariant-loop-left
invariant-loop-left l = record {
  before : length (at_number l.number (all_of (take l.place l.runs.parts))) + l.left ≡ l.index;
  behind : l.left < length (at_number l.number (all_of (drop l.place l.runs.parts)));
}

abbrev pub decreases-loop-left : goal.decreases-loop-left
decreases-loop-left l = length l.runs.parts - l.place
