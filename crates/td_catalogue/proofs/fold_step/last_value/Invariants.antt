use Rattle.std.proofs.Common.{◌≡◌, take}
use Rattle.td_catalogue.specs.Values.{later, chosen}
use Rattle.td_catalogue.proofs.fold_step.last_value.Given as goal

abbrev pub invariant-loop-item : goal.invariant-loop-item
invariant-loop-item l = l.last ≡ chosen later l.initial.last (take l.item-index l.items)
