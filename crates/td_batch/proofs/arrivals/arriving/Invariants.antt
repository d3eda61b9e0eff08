use Rattle.std.proofs.Common.{◌≡◌, ◌+◌, ◌≤◌, ◌++◌, flat_map, map, length}
use Rattle.std.specs.List.{enumerate_from}
use Rattle.td_stamp.specs.Groups.{arrival_of}
use Rattle.td_calls.specs.Callbacks.{arrivals}
use Rattle.td_batch.specs.Meaning.{emitted, bags_read}
use Rattle.td_batch.proofs.arrivals.arriving.Given as goal

-- what arrived so far, and what arrives at the ports that are left
abbrev pub invariant-loop-source : goal.invariant-loop-source
invariant-loop-source l =
    (l.port + length l.left ≤ 8)
    × (l.arrived.items ++ flat_map (λ b. map (arrival_of b.0) b.1) (enumerate_from l.port (map (emitted (bags_read l.vertex.vertex.kind l.before l.bags)) l.left))
    ≡ arrivals (map (emitted (bags_read l.vertex.vertex.kind l.before l.bags)) l.vertex.vertex.sources))

abbrev pub decreases-loop-source : goal.decreases-loop-source
decreases-loop-source l = length l.left
