use Rattle.std.proofs.Common.{◌≡◌, take}
use Rattle.td_shard.specs.Order.{few}
use Rattle.td_shard.specs.Runs.{all_of}
use Rattle.td_shard.proofs.take.count_below.Given as goal

abbrev pub invariant-loop-place : goal.invariant-loop-place
invariant-loop-place l = l.count ≡ few l.number (all_of (take l.place l.runs.parts))
