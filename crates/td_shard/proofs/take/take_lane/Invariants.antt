use Rattle.std.proofs.Common.{◌≡◌, suc, ◌+◌, ◌-◌, ◌^◌, ◌<◌, ◌≤◌, ◌++◌, length, take, drop}
use Rattle.td_shard.specs.Runs.{lane_eq, first_on, ahead_of, AreLinked, all_of, taken_on}
use Rattle.td_shard.proofs.take.take_lane.Given as goal

abbrev pub invariant-loop-ahead : goal.invariant-loop-ahead
invariant-loop-ahead l = record {
  parts : take (suc l.place) l.runs.parts ++ taken_on lane_eq l.lane (64 - l.count) (drop (suc l.place) l.runs.parts) ≡ taken_on lane_eq l.lane (64 - l.fn.count) l.fn.runs.parts;
  others : l.runs ≡ record l.fn.runs { parts = l.runs.parts };
  count : length (all_of l.runs.parts) + l.count ≡ length (all_of l.fn.runs.parts) + l.fn.count;
  ahead : l.ahead ≡ ahead_of (first_on lane_eq l.lane (drop (suc l.place) l.runs.parts));
  linked : AreLinked lane_eq l.runs.parts;
  within : l.place < length l.fn.runs.parts;
  long : length l.runs.parts ≡ length l.fn.runs.parts;
  fits : length l.fn.runs.parts < 2 ^ 64;
  full : l.count ≤ 64;
}

abbrev pub decreases-loop-ahead : goal.decreases-loop-ahead
decreases-loop-ahead l = length l.fn.runs.parts - l.place
