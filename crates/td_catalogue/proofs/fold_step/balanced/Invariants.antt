use Rattle.std.proofs.Common.{◌≡◌, take}
use Rattle.td_catalogue.specs.Values.{balanced}
use Rattle.td_catalogue.proofs.fold_step.balanced.Given as goal

abbrev pub invariant-loop-item : goal.invariant-loop-item
invariant-loop-item l = l.balance ≡ balanced l.before (take l.item-index l.items)
