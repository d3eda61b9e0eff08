use Rattle.std.proofs.Common.{◌≡◌, take}
use Rattle.td_catalogue.specs.Values.{lower, chosen}
use Rattle.td_catalogue.proofs.fold_step.least_so_far.Given as goal

abbrev pub invariant-loop-item : goal.invariant-loop-item
invariant-loop-item l = l.low ≡ chosen lower l.initial.low (take l.item-index l.items)
