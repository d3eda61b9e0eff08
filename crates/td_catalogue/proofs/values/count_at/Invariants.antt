use Rattle.std.proofs.Common.{◌≡◌, ◌≤◌, take, length}
use Rattle.td_calls.specs.Stock.{at_port}
use Rattle.td_catalogue.proofs.values.count_at.Given as goal

abbrev pub invariant-loop-item : goal.invariant-loop-item
invariant-loop-item l = (l.count ≡ length (at_port l.port (take l.item-index l.items))) × (l.count ≤ l.item-index)
