use Rattle.std.specs.Prelude.{◌≡◌, ◌+◌, ◌*◌, ◌≤◌, length, map, sum, All, true}
use Rattle.std.specs.Vec.{vec_capacity}
use Rattle.crossbeam_utils.specs.Padded.{padded_value}
use Rattle.td_batch.specs.Flow.{numbers_from}
use Rattle.td_pool.specs.Counts.{take_weight}
use Rattle.td_pool.specs.Hands.{is_empty}
use Rattle.td_pool.proofs.pool.Pool.new.Given as goal

-- each seat so far has a part of the shares, and the first the strays
abbrev pub invariant-loop-shard : goal.invariant-loop-shard
invariant-loop-shard g l = record {
  parts : l.rest.parts + l.shard ≡ l.shards;
  amount : l.rest.amount ≡ 0;
  total : l.book.total + take_weight * l.strays ≡ take_weight * l.initial.strays;
  strays : sum (map (λ s. s.strays) l.seats.items) + l.strays ≡ l.initial.strays;
  first : 1 ≤ l.shard → l.strays ≡ 0;
  seats : length l.seats.items ≡ l.shard;
  numbers : map (λ s. s.shard) l.seats.items ≡ numbers_from 0 l.shard;
  room : l.shards ≤ vec_capacity l.seats;
  free : All (λ s. (is_empty s.hand ≡ true) × (padded_value s.gives ≡ 0)) l.seats.items;
}
