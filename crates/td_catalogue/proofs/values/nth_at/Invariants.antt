use Rattle.std.proofs.Common.{◌≡◌, drop}
use Rattle.std.specs.List.{slice_get}
use Rattle.td_calls.specs.Stock.{at_port}
use Rattle.td_catalogue.proofs.values.nth_at.Given as goal

abbrev pub invariant-loop-item : goal.invariant-loop-item
invariant-loop-item l = slice_get (at_port l.port l.items) l.k ≡ slice_get (at_port l.port (drop l.item-index l.items)) l.left
