use Rattle.std.proofs.Common.{◌≡◌, length, take}
use Rattle.td_plan.specs.Blocks.{firsts}
use Rattle.td_plan.proofs.vertex.is_same_block.Given as goal

abbrev pub invariant-loop-i : goal.invariant-loop-i
invariant-loop-i l = (firsts (take l.i l.some) ≡ firsts (take l.i l.others)) × (length l.some ≡ length l.others)
