use Rattle.std.proofs.Common.{◌≡◌, take, fold}
use Rattle.td_catalogue.specs.Values.{with_third}
use Rattle.td_catalogue.proofs.fold_step.greatest_two.Given as goal

abbrev pub invariant-loop-item : goal.invariant-loop-item
invariant-loop-item l = l.two ≡ fold (λ two i. with_third two i.val) l.initial.two (take l.item-index l.items)
