use Rattle.std.proofs.Common.{◌≡◌, ◌+◌, ◌-◌, drop, length}
use Rattle.std.specs.Option.{option_map}
use Rattle.td_shard.specs.Runs.{lane_eq, first_on}
use Rattle.td_shard.proofs.take.first_place.Given as goal

abbrev pub invariant-loop-place : goal.invariant-loop-place
invariant-loop-place l = first_on lane_eq l.lane l.runs.parts ≡ option_map (λ i. l.place + i) (first_on lane_eq l.lane (drop l.place l.runs.parts))

abbrev pub decreases-loop-place : goal.decreases-loop-place
decreases-loop-place l = length l.runs.parts - l.place
