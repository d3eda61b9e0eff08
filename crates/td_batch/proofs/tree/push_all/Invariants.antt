use Rattle.std.proofs.Common.{◌≡◌, ◌++◌, take}
use Rattle.td_batch.proofs.tree.push_all.Given as goal

abbrev pub invariant-loop-source : goal.invariant-loop-source
invariant-loop-source l = l.numbers.items ≡ l.initial.numbers.items ++ take l.source-index l.sources
