use Rattle.std.proofs.Common.{◌≡◌, ◌-◌, ◌<◌, ◌≤◌, length, take}
use Rattle.std.specs.List.{HoldsAt}
use Rattle.td_shard.specs.Order.{few}
use Rattle.td_shard.specs.Runs.{all_of}
use Rattle.td_shard.proofs.take.bounds_of.Given as goal

abbrev pub invariant-loop-place : goal.invariant-loop-place
invariant-loop-place l = record {
  low : few l.low (all_of l.runs.parts) ≤ l.pick;
  before : l.before ≡ length (all_of (take l.place l.runs.parts));
  last : 0 < l.place → HoldsAt (λ p. l.last ≡ p.base) l.runs.parts (l.place - 1);
}
