use Rattle.std.proofs.Common.{ℕ, ◌<◌, get_or}
use Rattle.td_shard.specs.declared.shard.Shard.{Shard}
use Rattle.td_core.specs.Posted.{IsRoomier, HasRoom}
use Rattle.td_core.proofs.post.make_room_for.Given as goal

abbrev pub invariant-loop-shard : goal.invariant-loop-shard
invariant-loop-shard l = record {
  same : IsRoomier l.fn.shards.items l.shards.items;
  room : (k : ℕ) (d : Shard) → k < l.shard → HasRoom (get_or l.counts.runs k 0) (get_or l.counts.messages k 0) (get_or l.shards.items k d);
}
