use Rattle.std.proofs.Common.{◌≡◌, take}
use Rattle.td_catalogue.specs.Values.{latest}
use Rattle.td_catalogue.proofs.values.latest.Given as goal

abbrev pub invariant-loop-item : goal.invariant-loop-item
invariant-loop-item l = l.last ≡ latest l.initial.last (take l.item-index l.items)
