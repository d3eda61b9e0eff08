use Rattle.std.proofs.Common.{◌≡◌, length, take, map}
use Rattle.td_plan.proofs.same.are_same_vertices.Given as goal

abbrev pub invariant-loop-i : goal.invariant-loop-i
invariant-loop-i l = (map (λ p. p.vertex) (take l.i l.some) ≡ map (λ p. p.vertex) (take l.i l.others)) × (length l.some ≡ length l.others)
