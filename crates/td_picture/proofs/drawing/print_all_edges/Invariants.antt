use Rattle.std.proofs.Common.{◌≡◌, ◌++◌, drop}
use Rattle.std.specs.Prelude.{flat_map, string_bytes}
use Rattle.td_picture.specs.Drawn.{edges_of}
use Rattle.td_picture.proofs.drawing.print_all_edges.Given as goal

-- with the edges that are left it is the text with all of them
abbrev pub invariant-loop-vertex : goal.invariant-loop-vertex
invariant-loop-vertex l =
    string_bytes l.text ++ flat_map (λ p. edges_of p.vertex) (drop l.vertex-index l.vertices) ≡ string_bytes l.initial.text ++ flat_map (λ p. edges_of p.vertex) l.vertices
