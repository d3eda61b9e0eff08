use Rattle.std.proofs.Common.{◌≡◌, ◌≤◌, length, take}
use Rattle.td_stamp.proofs.time.Time.copy.Given as goal

abbrev pub invariant-loop-turn : goal.invariant-loop-turn
invariant-loop-turn l = (l.turns.items ≡ take l.turn-index l.turn-items) × (length l.turn-items ≤ 3)
