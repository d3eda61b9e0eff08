-- What the runs of a mailbox keep true of what they hold.
use Rattle.std.specs.Prelude.{◌+◌, ◌^◌, ◌<◌, ◌≤◌, length}
use Rattle.std.specs.VecDeque.{deque_len, deque_capacity}
use Rattle.td_shard.specs.declared.runs.Runs.TheInside.{Inside}
use Rattle.td_shard.specs.Runs.{InOrder, BeginsAt}

pub record IsRuns (m : Inside) : Type 0 where
  pub ordered : InOrder m.start m.runs.items (m.start + length m.recs.items)
  pub begins : BeginsAt m.start (length m.recs.items) m.runs.items
  pub runs_kept : deque_len m.runs + m.runs_room ≤ deque_capacity m.runs
  pub recs_kept : deque_len m.recs + m.room ≤ deque_capacity m.recs
  -- the numbers of the runs, and of the records
  pub numbers : m.first + (deque_len m.runs + m.runs_room) < 2 ^ 64
  pub rec_numbers : m.start + (deque_len m.recs + m.room) < 2 ^ 64
