use Rattle.std.proofs.Common.{◌≡◌, [], length}
use Rattle.std.specs.List.{AllByRecursion}
use Rattle.td_batch.specs.Meaning.{emitted, returned}
use Rattle.td_batch.proofs.tree.are_empty.Given as goal

abbrev pub invariant-loop-source : goal.invariant-loop-source
invariant-loop-source l =
    AllByRecursion (λ s. emitted (returned l.before) s ≡ []) l.left → AllByRecursion (λ s. emitted (returned l.before) s ≡ []) l.sources

abbrev pub decreases-loop-source : goal.decreases-loop-source
decreases-loop-source l = length l.left
