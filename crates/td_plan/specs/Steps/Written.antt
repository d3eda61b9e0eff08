-- What the values that a line is read to stand for.
use Rattle.std.specs.Prelude.{ℕ, List}
use Rattle.std.specs.Borrow.{Bor}
use Rattle.td_plan.specs.declared.vertex.Kind.{Kind}
use Rattle.td_plan.specs.declared.line.WrittenLine.{WrittenLine}
use Rattle.td_plan.specs.declared.line.WrittenLine.TheVariants as written
use Rattle.td_plan.specs.Text.{words}
use Rattle.td_plan.specs.Lines.{Line}
use Rattle.td_plan.specs.Lines.Line.{vertex, loop, end}

-- a line as it was read
abbrev pub written_line : WrittenLine → Line
written_line (written.Vertex v) = vertex v
written_line (written.Loop bound) = loop bound
written_line written.End = end

-- a kind with the words that follow it
abbrev pub kind_words : (Kind × Bor (List ℕ)) → (Kind × List (List ℕ))
kind_words p = (p.0, words p.1.now)

-- a code with the words that follow it
abbrev pub rest_words : (ℕ × Bor (List ℕ)) → (ℕ × List (List ℕ))
rest_words p = (p.0, words p.1.now)
