use Rattle.std.proofs.Common.{◌≡◌, drop}
use Rattle.std.specs.VecDeque.{deque_capacity}
use Rattle.td_shard.proofs.runs.pop_rows.Given as goal

abbrev pub invariant-loop : goal.invariant-loop
invariant-loop l = record {
  items : l.rows.items ≡ drop l.counter l.initial.rows.items;
  capacity : deque_capacity l.rows ≡ deque_capacity l.initial.rows;
}
