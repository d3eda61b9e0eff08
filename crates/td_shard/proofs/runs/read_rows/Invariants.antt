use Rattle.std.proofs.Common.{◌≡◌, ◌+◌, ◌-◌, ◌++◌, map, take, drop, vec_len, vec_capacity}
use Rattle.td_shard.specs.Runs.{rec_of}
use Rattle.td_shard.proofs.runs.read_rows.Given as goal

abbrev pub invariant-loop-place : goal.invariant-loop-place
invariant-loop-place l = record {
  items : l.recs.items ≡ l.initial.recs.items ++ map rec_of (take (l.place - l.from) (drop l.from l.rows.items));
  len : vec_len l.recs ≡ vec_len l.initial.recs + (l.place - l.from);
  capacity : vec_capacity l.recs ≡ vec_capacity l.initial.recs;
}
