use Rattle.std.proofs.Common.{◌≡◌, ◌++◌, drop}
use Rattle.std.specs.Prelude.{string_bytes}
use Rattle.td_plan.specs.Lines.{text_of}
use Rattle.td_plan.specs.Marks.{lines_of_marks}
use Rattle.td_plan.proofs.printer.print.Given as goal

abbrev pub invariant-loop-mark : goal.invariant-loop-mark
invariant-loop-mark l =
    string_bytes l.text ++ text_of (lines_of_marks (drop l.mark-index l.marks) l.left) ≡ text_of (lines_of_marks l.marks l.fn.vertices)
