use Rattle.std.proofs.Common.{◌≡◌, ◌-◌, ◌<◌, ◌≤◌, length, take}
use Rattle.std.specs.List.{AllByRecursion, HoldsAt}
use Rattle.td_shard.specs.Runs.{all_of}
use Rattle.td_shard.proofs.take.first_among.Given as goal

abbrev pub invariant-loop-place : goal.invariant-loop-place
invariant-loop-place l = record {
  within : l.place ≤ length l.runs.parts;
  first : l.first < l.place;
  waits : HoldsAt (λ p. 0 < length p.recs) l.runs.parts l.first;
  least : HoldsAt (λ p. HoldsAt (λ r. l.least ≡ r.number) p.recs 0) l.runs.parts l.first;
  base : HoldsAt (λ p. p.base ≡ l.base) l.runs.parts l.first;
  before : AllByRecursion (λ x. l.least < x.0) (all_of (take l.first l.runs.parts));
  all : AllByRecursion (λ x. l.least ≤ x.0) (all_of (take l.place l.runs.parts));
}

abbrev pub decreases-loop-place : goal.decreases-loop-place
decreases-loop-place l = length l.runs.parts - l.place
