use Rattle.std.proofs.Common.{◌≡◌, map}
use Rattle.td_shard.specs.Versions.{AreKept, with_some, removed_there}
use Rattle.td_shard.proofs.versions.remove_all.Given as goal

abbrev pub invariant-loop-vertex : goal.invariant-loop-vertex
invariant-loop-vertex l =
    (with_some removed_there l.epoch l.states (map (λ e. (e.0, e.1.items)) l.vertex-iterator) ≡ with_some removed_there l.epoch l.fn.states (map (λ e. (e.0, e.1.items)) l.initial.vertex-iterator))
    × AreKept (map (λ e. (e.0, e.1.items)) l.vertex-iterator)
