use Rattle.std.proofs.Common.{◌≡◌, ◌+◌, ◌-◌, ◌≤◌, length, take, vec_len, vec_capacity}
use Rattle.td_stamp.specs.Orders.{rec_cmp}
use Rattle.td_stamp.specs.Bag.{join}
use Rattle.td_shard.specs.Seen.{fresh_recs}
use Rattle.td_shard.proofs.seen.put_in.Given as goal

abbrev pub invariant-loop-rec : goal.invariant-loop-rec
invariant-loop-rec l = record {
  new : l.new.items ≡ fresh_recs l.fn.set.keys (take l.rec-index l.recs);
  set : l.set.keys ≡ join rec_cmp l.new.items l.fn.set.keys;
  room : vec_len l.new + (length l.recs - l.rec-index) ≤ vec_capacity l.new;
}
