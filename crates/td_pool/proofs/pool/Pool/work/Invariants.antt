use Rattle.std.specs.Prelude.{◌≡◌, ◌⊎◌, ◌≤◌, ◌<◌, Some}
use Rattle.crossbeam_utils.specs.Padded.{padded_value}
use Rattle.td_machine.specs.State.{Task}
use Rattle.td_pool.specs.Hands.{task_of}
use Rattle.td_pool.proofs.pool.Pool.work.Given as goal

-- the seat is of the same shard, its count did not fall, no task was lost, and what it held was given or is there still
abbrev pub invariant-loop-turn : goal.invariant-loop-turn
invariant-loop-turn g l = record {
  shard : l.seat.shard ≡ l.fn.seat.shard;
  rises : padded_value l.fn.seat.gives ≤ padded_value l.seat.gives;
  strays : l.seat.strays ≡ l.fn.seat.strays;
  kept : (held : Task) → task_of l.fn.seat.hand ≡ Some held → (padded_value l.fn.seat.gives < padded_value l.seat.gives) ⊎ (task_of l.seat.hand ≡ Some held);
}
