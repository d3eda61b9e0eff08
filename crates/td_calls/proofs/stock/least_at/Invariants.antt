use Rattle.std.proofs.Common.{◌≡◌, take}
use Rattle.td_calls.specs.Stock.{at_port}
use Rattle.td_calls.specs.Steps.{least_of}
use Rattle.td_calls.proofs.stock.least_at.Given as goal

abbrev pub invariant-loop-item : goal.invariant-loop-item
invariant-loop-item l = l.low ≡ least_of (at_port l.port (take l.item-index l.items))
