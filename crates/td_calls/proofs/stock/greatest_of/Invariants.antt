use Rattle.std.proofs.Common.{◌≡◌, take, fold}
use Rattle.std.specs.Int.{int_max}
use Rattle.td_calls.proofs.stock.greatest_of.Given as goal

abbrev pub invariant-loop-item : goal.invariant-loop-item
invariant-loop-item l = l.high ≡ fold (λ high i. int_max high i.val) l.initial.high (take l.item-index l.others)
