use Rattle.std.proofs.Common.{◌≤◌, length}
use Rattle.td.proofs.plan.before_separator.Given as goal

-- what is left is no longer than the whole
abbrev pub invariant-loop-line : goal.invariant-loop-line
invariant-loop-line l = length l.rest ≤ length l.text

abbrev pub decreases-loop-line : goal.decreases-loop-line
decreases-loop-line l = length l.rest
