use Rattle.std.proofs.Common.{◌≡◌, ◌++◌, drop}
use Rattle.std.specs.Prelude.{flat_map, string_bytes}
use Rattle.std.specs.List.{enumerate_from}
use Rattle.td_picture.specs.Drawn.{edge_of, edges_of}
use Rattle.td_picture.proofs.edges.print_edges.Given as goal

-- with the edges that are left it is the text with all of them
abbrev pub invariant-loop-port : goal.invariant-loop-port
invariant-loop-port l =
    string_bytes l.text ++ flat_map (edge_of l.vertex.vertex) (enumerate_from l.port (drop l.port l.source-items)) ≡ string_bytes l.initial.text ++ edges_of l.vertex.vertex
