use Rattle.std.proofs.Common.{◌≡◌, ◌∷◌, length}
use Rattle.td_stamp.specs.Groups.{runs}
use Rattle.td_batch.specs.Steps.Sent.{with_run}
use Rattle.td_batch.proofs.groups.Groups.next.Given as goal

-- the items of the key so far, with the runs of the rest
abbrev pub invariant-loop-arrival : goal.invariant-loop-arrival
invariant-loop-arrival l = runs (l.first ∷ l.initial.self-inside.rest) ≡ with_run l.first.key l.items.items (runs l.self-inside.rest)

abbrev pub decreases-loop-arrival : goal.decreases-loop-arrival
decreases-loop-arrival l = length l.self-inside.rest
