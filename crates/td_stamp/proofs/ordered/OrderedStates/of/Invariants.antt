use Rattle.std.proofs.Common.{◌≡◌, ◌++◌}
use Rattle.td_stamp.proofs.ordered.OrderedStates.of.Given as goal

-- with those that are left they are all
abbrev pub invariant-loop-entry : goal.invariant-loop-entry
invariant-loop-entry l = l.entries.items ++ l.entry-iterator ≡ l.states
