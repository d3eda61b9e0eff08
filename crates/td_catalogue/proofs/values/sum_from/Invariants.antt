use Rattle.std.proofs.Common.{◌≡◌, take}
use Rattle.td_calls.specs.Stock.{sum_from}
use Rattle.td_catalogue.proofs.values.sum_from.Given as goal

abbrev pub invariant-loop-item : goal.invariant-loop-item
invariant-loop-item l = l.sum ≡ sum_from l.start (take l.item-index l.items)
