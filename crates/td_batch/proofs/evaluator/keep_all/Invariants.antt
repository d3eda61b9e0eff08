use Rattle.std.proofs.Common.{◌≡◌, fold, take}
use Rattle.td_batch.specs.Changes.{with_change}
use Rattle.td_batch.proofs.evaluator.keep_all.Given as goal

abbrev pub invariant-loop-change : goal.invariant-loop-change
invariant-loop-change l = l.states ≡ fold with_change l.initial.states (take l.change-index l.changes)
