use Rattle.std.proofs.Common.{ℕ, ◌+◌, ◌-◌, ◌*◌, ◌≤◌, take, drop, length}
use Rattle.td_core.specs.Posted.{IsPosted, HaveRoomFor, count_of}
use Rattle.td_shard.specs.Messages.{on_each}
use Rattle.td_core.proofs.post.post_runs.Given as goal

abbrev pub invariant-loop-done : goal.invariant-loop-done
invariant-loop-done l = record {
  within : l.done ≤ length l.recs;
  posted : IsPosted (on_each l.outlets l.time (take l.done l.recs)) l.fn.shards.items l.shards.items;
  room : (runs many : ℕ → ℕ)
      → HaveRoomFor (λ s. count_of (length l.fn.shards.items) l.recs s * length l.outlets + runs s) (λ s. count_of (length l.fn.shards.items) l.recs s * length l.outlets + many s) l.fn.shards.items
      → HaveRoomFor (λ s. count_of (length l.fn.shards.items) (drop l.done l.recs) s * length l.outlets + runs s) (λ s. count_of (length l.fn.shards.items) (drop l.done l.recs) s * length l.outlets + many s) l.shards.items;
}

abbrev pub decreases-loop-done : goal.decreases-loop-done
decreases-loop-done l = length l.recs - l.done
