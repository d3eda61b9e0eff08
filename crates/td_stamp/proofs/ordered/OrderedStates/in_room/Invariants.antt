use Rattle.std.proofs.Common.{◌≡◌, ◌++◌, ◌+◌, ◌≤◌, length, vec_len, vec_capacity}
use Rattle.td_stamp.proofs.ordered.OrderedStates.in_room.Given as goal

-- with those that are left they are all, and there is room for these
abbrev pub invariant-loop-state : goal.invariant-loop-state
invariant-loop-state l = (l.entries.items ++ l.state-iterator ≡ l.states) × (vec_len l.entries + length l.state-iterator ≤ vec_capacity l.entries)
