use Rattle.std.proofs.Common.{◌≡◌, suc, ◌-◌, ◌^◌, ◌<◌, ◌≤◌, ◌++◌, map, length, take, drop, vec_len, vec_capacity}
use Rattle.td_shard.specs.Runs.{rec_of, lane_eq, first_on, ahead_of, changed_at, without_at, lane_recs}
use Rattle.td_shard.proofs.take.read_lane.Given as goal

abbrev pub invariant-loop-ahead : goal.invariant-loop-ahead
invariant-loop-ahead l = record {
  recs : l.recs.items ++ map rec_of (take (64 - vec_len l.recs) (lane_recs lane_eq l.lane (drop (suc l.place) (changed_at (without_at l.offset) l.picked l.runs.parts))))
      ≡ l.fn.recs.items ++ map rec_of (take (64 - vec_len l.fn.recs) (lane_recs lane_eq l.lane (changed_at (without_at l.offset) l.picked l.runs.parts)));
  ahead : l.ahead ≡ ahead_of (first_on lane_eq l.lane (drop (suc l.place) (changed_at (without_at l.offset) l.picked l.runs.parts)));
  within : l.place < length l.runs.parts;
  fits : length l.runs.parts < 2 ^ 64;
  full : vec_len l.recs ≤ 64;
  room : vec_capacity l.recs ≡ 64;
}

abbrev pub decreases-loop-ahead : goal.decreases-loop-ahead
decreases-loop-ahead l = length l.runs.parts - l.place
