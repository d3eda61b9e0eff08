-- A plan as a text that tells what its closures are.
use Rattle.std.specs.Prelude.{List, [], ◌++◌, flat_map, codes}
use Rattle.td_plan.specs.Lines.{Line, text_of_line}
use Rattle.td_plan.specs.Lines.Line.{vertex, loop, end}
use Rattle.td_picture.specs.Words.{Text, told_between}

-- the comment before a line: of a vertex with a closure, what that is
abbrev pub comment_of : Line → Text
comment_of (vertex v) = told_between (codes "# ") (codes "\n") v.kind
comment_of (loop bound) = []
comment_of end = []

abbrev pub listed_line : Line → Text
listed_line line = comment_of line ++ text_of_line line

-- THE LISTING of a plan: its canonical text, with a comment before the line of each vertex that has a closure
abbrev pub listing_of : List Line → Text
listing_of plan = flat_map listed_line plan
