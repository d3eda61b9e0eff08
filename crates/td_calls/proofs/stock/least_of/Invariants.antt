use Rattle.std.proofs.Common.{◌≡◌, take, fold}
use Rattle.std.specs.Int.{int_min}
use Rattle.td_calls.proofs.stock.least_of.Given as goal

abbrev pub invariant-loop-item : goal.invariant-loop-item
invariant-loop-item l = l.low ≡ fold (λ low i. int_min low i.val) l.initial.low (take l.item-index l.others)
