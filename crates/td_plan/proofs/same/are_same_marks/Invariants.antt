use Rattle.std.proofs.Common.{◌≡◌, length, take}
use Rattle.td_plan.proofs.same.are_same_marks.Given as goal

abbrev pub invariant-loop-i : goal.invariant-loop-i
invariant-loop-i l = (take l.i l.some ≡ take l.i l.others) × (length l.some ≡ length l.others)
