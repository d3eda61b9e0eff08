use Rattle.std.proofs.Common.{◌≡◌, ◌+◌, ◌-◌, ◌≤◌, ◌++◌, length}
use Rattle.std.specs.VecDeque.{deque_len, deque_capacity}
use Rattle.td_keeper.proofs.collect.append.Given as goal

abbrev pub invariant-loop-each : goal.invariant-loop-each
invariant-loop-each g l = record {
  items : l.queue.items ≡ l.fn.queue.items ++ l.yielded;
  room : deque_len l.queue + (length l.fn.next.items - length l.yielded) ≤ deque_capacity l.queue;
}
