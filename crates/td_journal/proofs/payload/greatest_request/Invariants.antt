use Rattle.std.proofs.Common.{◌≡◌, drop}
use Rattle.td_journal.specs.Numbers.{greatest}
use Rattle.td_journal.proofs.payload.greatest_request.Given as goal

-- the answer is that of the numbers that are left
abbrev pub invariant-loop-each : goal.invariant-loop-each
invariant-loop-each l = greatest l.fn.last l.submitted ≡ greatest l.most (drop l.each-index l.submitted)
