use Rattle.std.proofs.Common.{◌≡◌, ◌+◌, ◌-◌, ◌≤◌, replicate, vec_len, vec_capacity}
use Rattle.td_core.specs.Parts.{empty_shard}
use Rattle.td_core.proofs.hall.empty_shards.Given as goal

abbrev pub invariant-loop-shard : goal.invariant-loop-shard
invariant-loop-shard l = record {
  shards : l.shards.items ≡ replicate l._shard empty_shard;
  room : vec_len l.shards + (l.workers - l._shard) ≤ vec_capacity l.shards;
}
