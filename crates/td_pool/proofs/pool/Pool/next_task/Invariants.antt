use Rattle.std.specs.Prelude.{◌≡◌, true}
use Rattle.crossbeam_utils.specs.Padded.{padded_value}
use Rattle.td_pool.specs.Hands.{is_empty}
use Rattle.td_pool.proofs.pool.Pool.next_task.Given as goal

-- the seat has nothing yet
abbrev pub invariant-loop-turn : goal.invariant-loop-turn
invariant-loop-turn g l = record {
  shard : l.seat.shard ≡ l.fn.seat.shard;
  gives : padded_value l.seat.gives ≡ padded_value l.fn.seat.gives;
  strays : l.seat.strays ≡ l.fn.seat.strays;
  empty : is_empty l.seat.hand ≡ true;
}
