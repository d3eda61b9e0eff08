use Rattle.std.proofs.Common.{◌≡◌, ◌≤◌, ◌++◌, take, map, length}
use Rattle.std.specs.List.{enumerate_from}
use Rattle.td_plan.proofs.vertex.Vertex.add_edges.Given as goal

abbrev pub invariant-loop-source : goal.invariant-loop-source
invariant-loop-source l =
    (l.edges.items ≡ l.initial.edges.items ++ map (λ s. record { source = s.1; reader = l.self-inside.number; port = s.0 }) (enumerate_from 0 (take l.source-index l.source-items)))
    × (l.port ≡ l.source-index) × (length l.source-items ≤ 8)
