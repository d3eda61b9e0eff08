use Rattle.std.proofs.Common.{◌≡◌, ◌≤◌, ◌-◌, length}
use Rattle.td_catalogue.specs.Values.{pair_at}
use Rattle.td_catalogue.proofs.Pushed.{so_far}
use Rattle.td_catalogue.proofs.group_step.pairs.Given as goal

abbrev pub invariant-loop-k : goal.invariant-loop-k
invariant-loop-k l = (l.first ≤ l.k) × (length l.few.items ≤ l.k - l.first) × (l.few.items ≡ so_far (pair_at l.items) l.first l.k)
