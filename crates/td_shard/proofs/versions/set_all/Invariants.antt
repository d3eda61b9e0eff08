use Rattle.std.proofs.Common.{◌≡◌, map}
use Rattle.td_shard.specs.Versions.{AreKept, with_some, set_there, with_changes_back}
use Rattle.td_shard.proofs.versions.set_all.Given as goal

abbrev pub invariant-loop-vertex : goal.invariant-loop-vertex
invariant-loop-vertex l = record {
  made : with_some set_there l.epoch l.states (map (λ e. (e.0, e.1.items)) l.vertex-iterator) ≡ with_some set_there l.epoch l.fn.states (map (λ e. (e.0, e.1.items)) l.initial.vertex-iterator);
  kept : AreKept (map (λ e. (e.0, e.1.items)) l.vertex-iterator);
  back : with_changes_back l.states l.before.items ≡ with_changes_back l.fn.states l.fn.before.items;
}
