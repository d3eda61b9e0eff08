use Rattle.std.proofs.Common.{◌≡◌, ◌≤◌, ◌+◌, ◌++◌, drop}
use Rattle.std.specs.Prelude.{string_bytes}
use Rattle.td_plan.specs.Marks.{lines_of_marks}
use Rattle.td_picture.specs.Drawn.{nodes_of}
use Rattle.td_picture.proofs.drawing.print_nodes.Given as goal

-- with the lines that are left it is the text with all nodes
abbrev pub invariant-loop-mark : goal.invariant-loop-mark
invariant-loop-mark l = record {
  number : l.number ≤ l.mark-index + 1;
  nodes : string_bytes l.text ++ nodes_of l.number (lines_of_marks (drop l.mark-index l.mark-items) l.left) ≡ string_bytes l.initial.text ++ nodes_of 1 l.plan;
}
