use Rattle.std.proofs.Common.{◌≡◌, take, pos}
use Rattle.td_calls.specs.Stock.{sum_from, at_port}
use Rattle.td_catalogue.proofs.values.sum_at.Given as goal

abbrev pub invariant-loop-item : goal.invariant-loop-item
invariant-loop-item l = l.sum ≡ sum_from (pos 0) (at_port l.port (take l.item-index l.items))
