use Rattle.std.proofs.Common.{◌≡◌, ◌++◌}
use Rattle.td_batch.proofs.rounds.append.Given as goal

abbrev pub invariant-loop-rec : goal.invariant-loop-rec
invariant-loop-rec l = l.collected-inside.recs.items ++ l.rec-iterator ≡ l.initial.collected-inside.recs.items ++ l.bag
