use Rattle.std.proofs.Common.{◌-◌, ◌<◌, ◌≤◌, length, take}
use Rattle.std.specs.List.{AllByRecursion, HoldsAt}
use Rattle.td_shard.specs.Runs.{its}
use Rattle.td_shard.proofs.take.below_in.Given as goal

abbrev pub invariant-loop-low : goal.invariant-loop-low
invariant-loop-low l = record {
  ordered : l.low ≤ l.high;
  within : HoldsAt (λ p. l.high ≤ length p.recs) l.runs.parts l.place;
  lower : HoldsAt (λ p. AllByRecursion (λ x. x.0 < l.number) (take l.low (its p))) l.runs.parts l.place;
  upper : HoldsAt (λ p. l.high < length p.recs → HoldsAt (λ r. l.number ≤ r.number) p.recs l.high) l.runs.parts l.place;
}

abbrev pub decreases-loop-low : goal.decreases-loop-low
decreases-loop-low l = l.high - l.low
