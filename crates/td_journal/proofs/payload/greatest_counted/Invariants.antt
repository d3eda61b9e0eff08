use Rattle.std.proofs.Common.{◌≡◌, drop}
use Rattle.td_journal.specs.Counts.{greatest_counted}
use Rattle.td_journal.proofs.payload.greatest_counted.Given as goal

-- the answer is that of the numbers that are left
abbrev pub invariant-loop-counted : goal.invariant-loop-counted
invariant-loop-counted l = greatest_counted l.fn.last l.counts ≡ greatest_counted l.most (drop l.counted-index l.counts)
