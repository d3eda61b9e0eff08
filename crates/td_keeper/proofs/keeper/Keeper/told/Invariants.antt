use Rattle.std.proofs.Common.{◌≡◌, take}
use Rattle.td_keeper.proofs.keeper.Keeper.told.Given as goal

abbrev pub invariant-loop-i : goal.invariant-loop-i
invariant-loop-i g l = l.submitted.items ≡ take l.i l.self-inside.submitted.items
