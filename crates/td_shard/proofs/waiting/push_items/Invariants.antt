use Rattle.std.proofs.Common.{◌≡◌, ◌+◌, ◌-◌, ◌≤◌, ◌++◌, length, map, take, vec_len, vec_capacity}
use Rattle.td_stamp.specs.Groups.{arrival_of}
use Rattle.td_shard.proofs.waiting.push_items.Given as goal

abbrev pub invariant-loop-rec : goal.invariant-loop-rec
invariant-loop-rec l = record {
  items : l.items.items ≡ l.fn.items.items ++ map (arrival_of l.port) (take l.rec-index l.recs);
  room : vec_len l.items + (length l.recs - l.rec-index) ≤ vec_capacity l.items;
}
