use Rattle.std.proofs.Common.{◌≡◌, ◌++◌, map}
use Rattle.td_questions.specs.Weighed.{entry_of}
use Rattle.td_questions.proofs.ranks.entries_of.Given as goal

abbrev pub invariant-loop-one : goal.invariant-loop-one
invariant-loop-one l = l.entries.items ++ map (entry_of l.order) l.one-iterator ≡ map (entry_of l.order) l.first.keys
