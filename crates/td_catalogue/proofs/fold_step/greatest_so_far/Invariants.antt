use Rattle.std.proofs.Common.{◌≡◌, take}
use Rattle.td_catalogue.specs.Values.{higher, chosen}
use Rattle.td_catalogue.proofs.fold_step.greatest_so_far.Given as goal

abbrev pub invariant-loop-item : goal.invariant-loop-item
invariant-loop-item l = l.high ≡ chosen higher l.initial.high (take l.item-index l.items)
