use Rattle.std.proofs.Common.{◌≡◌, ◌-◌, take, drop}
use Rattle.std.specs.List.{AllByRecursion}
use Rattle.td_machine.specs.State.{shard_of_key}
use Rattle.td_core.proofs.post.run_end.Given as goal

abbrev pub invariant-loop-end : goal.invariant-loop-end
invariant-loop-end l = AllByRecursion (λ r. shard_of_key l.workers r.key ≡ l.shard) (take (l.end - l.begin) (drop l.begin l.recs))
