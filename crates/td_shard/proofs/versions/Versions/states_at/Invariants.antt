use Rattle.std.proofs.Common.{◌≡◌, map}
use Rattle.td_shard.specs.Versions.{AreKept, with_latest}
use Rattle.td_shard.proofs.versions.Versions.states_at.Given as goal

abbrev pub invariant-loop-vertex : goal.invariant-loop-vertex
invariant-loop-vertex l =
    (with_latest l.epoch l.states (map (λ e. (e.0, e.1.items)) l.vertex-iterator) ≡ with_latest l.epoch l.fn.base (map (λ e. (e.0, e.1.items)) l.initial.vertex-iterator))
    × AreKept (map (λ e. (e.0, e.1.items)) l.vertex-iterator)
