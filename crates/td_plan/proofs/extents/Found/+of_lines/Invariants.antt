use Rattle.std.proofs.Common.{length}
use Rattle.td_plan.proofs.extents.Found.+of_lines.Given as goal

abbrev pub decreases-of_lines : goal.decreases-of_lines
decreases-of_lines l = length l.marks.now
