use Rattle.std.specs.Prelude.{◌≡◌}
use Rattle.td_pool.proofs.pool.Pool.wake_for_tasks.Given as goal

-- what lies under the lock is as it was
abbrev pub invariant-loop-shard : goal.invariant-loop-shard
invariant-loop-shard g l = l.held ≡ l.initial.held
