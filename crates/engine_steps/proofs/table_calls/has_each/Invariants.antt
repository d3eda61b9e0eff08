use Rattle.std.proofs.Common.{length}
use Rattle.std.specs.List.{AllByRecursion}
use Rattle.td_reach.specs.Paths.{IsOf}
use Rattle.td_progress.specs.Bag.{input_stamp}
use Rattle.engine_steps.proofs.table_calls.has_each.Given as goal

abbrev pub invariant-loop-input : goal.invariant-loop-input
invariant-loop-input l =
    AllByRecursion (λ v. IsOf l.reach (input_stamp l.first v)) l.left → AllByRecursion (λ v. IsOf l.reach (input_stamp l.first v)) l.inputs

abbrev pub decreases-loop-input : goal.decreases-loop-input
decreases-loop-input l = length l.left
