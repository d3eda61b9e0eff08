use Rattle.std.proofs.Common.{◌≢◌, ◌<◌, ◌≤◌, ◌-◌, ℕ, length, get_or}
use Rattle.td_console.proofs.parts.line_end.Given as goal

-- no line feed stands before the place
abbrev pub invariant-loop-end : goal.invariant-loop-end
invariant-loop-end l = record { bound : l.end ≤ length l.bytes; none : (k : ℕ) → k < l.end → get_or l.bytes k 0 ≢ 10 }

abbrev pub decreases-loop-end : goal.decreases-loop-end
decreases-loop-end l = length l.bytes - l.end
