use Rattle.std.proofs.Common.{length}
use Rattle.td_batch.proofs.built.Built.+of_lines.Given as goal

abbrev pub decreases-of_lines : goal.decreases-of_lines
decreases-of_lines l = length l.marks.now
