use Rattle.std.proofs.Common.{◌≡◌, take, fold}
use Rattle.std.specs.Prelude.{Some}
use Rattle.td_catalogue.specs.Values.{with_visit}
use Rattle.td_catalogue.proofs.fold_step.visits.Given as goal

abbrev pub invariant-loop-item : goal.invariant-loop-item
invariant-loop-item l = l.visits ≡ fold (λ s i. Some (with_visit l.gap s i.val)) l.initial.visits (take l.item-index l.items)
