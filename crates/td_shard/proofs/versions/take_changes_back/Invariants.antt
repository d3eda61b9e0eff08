use Rattle.std.proofs.Common.{◌≡◌, length}
use Rattle.td_shard.specs.Versions.{with_changes_back}
use Rattle.td_shard.proofs.versions.take_changes_back.Given as goal

abbrev pub invariant-loop-vertex : goal.invariant-loop-vertex
invariant-loop-vertex l = with_changes_back l.states l.before.items ≡ with_changes_back l.fn.states l.fn.before.items

abbrev pub decreases-loop-vertex : goal.decreases-loop-vertex
decreases-loop-vertex l = length l.before.items
