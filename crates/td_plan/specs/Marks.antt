-- The lines of a plan as marks beside the list of its vertices.
use Rattle.std.specs.Prelude.{List, [], ◌∷◌}
use Rattle.td_plan.specs.declared.mark.Mark.{Mark}
use Rattle.td_plan.specs.declared.mark.Mark.TheVariants as mark
use Rattle.td_plan.specs.Blocks.{PlacedVertex}
use Rattle.td_plan.specs.Lines.{Line}
use Rattle.td_plan.specs.Lines.Line.{vertex, loop, end}

-- marks with the vertices for which they stand, in order, as lines
abbrev pub lines_of_marks : List Mark → List PlacedVertex → List Line
lines_of_marks [] placed = []
lines_of_marks (mark.Vertex ∷ marks) [] = lines_of_marks marks []
lines_of_marks (mark.Vertex ∷ marks) (p ∷ placed) = vertex p.vertex ∷ lines_of_marks marks placed
lines_of_marks (mark.Loop bound ∷ marks) placed = loop bound ∷ lines_of_marks marks placed
lines_of_marks (mark.End ∷ marks) placed = end ∷ lines_of_marks marks placed

-- there is a mark for each vertex, and a vertex for each such mark
abbrev pub AreMarked : List Mark → List PlacedVertex → Type 0
AreMarked [] [] = Unit {0}
AreMarked [] (p ∷ placed) = ⊥
AreMarked (mark.Vertex ∷ marks) [] = ⊥
AreMarked (mark.Vertex ∷ marks) (p ∷ placed) = AreMarked marks placed
AreMarked (mark.Loop bound ∷ marks) placed = AreMarked marks placed
AreMarked (mark.End ∷ marks) placed = AreMarked marks placed
