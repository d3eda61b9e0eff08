use Rattle.std.proofs.Common.{◌≡◌, take, fold, pos}
use Rattle.std.specs.Prelude.{None}
use Rattle.td_catalogue.specs.Values.{with_run}
use Rattle.td_catalogue.proofs.values.runs.Given as goal

abbrev pub invariant-loop-item : goal.invariant-loop-item
invariant-loop-item l = l.seen ≡ fold (λ seen i. with_run seen i.val) (None, pos 0) (take l.item-index l.items)
