use Rattle.std.proofs.Common.{◌≡◌, ◌+◌, ◌++◌, take}
use Rattle.std.specs.VecDeque.{deque_capacity}
use Rattle.td_shard.specs.Runs.{numbered}
use Rattle.td_shard.proofs.runs.push_rows.Given as goal

abbrev pub invariant-loop-rec : goal.invariant-loop-rec
invariant-loop-rec l = record {
  next : l.next ≡ l.number + l.rec-index;
  items : l.rows.items ≡ l.initial.rows.items ++ take l.rec-index (numbered l.number l.recs);
  capacity : deque_capacity l.rows ≡ deque_capacity l.initial.rows;
}
