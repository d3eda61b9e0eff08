use Rattle.std.proofs.Common.{◌≡◌, take, drop, map, length}
use Rattle.td_catalogue.proofs.group_step.greatest.Given as goal

abbrev pub invariant-loop-item : goal.invariant-loop-item
invariant-loop-item l = (l.few.items ≡ map (λ i. record { key = l.key; val = i.val }) (take l.item-index (drop l.first l.items))) × (length l.few.items ≡ l.item-index)
