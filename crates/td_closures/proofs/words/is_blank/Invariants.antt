use Rattle.std.proofs.Common.{◌≡◌, length}
use Rattle.td_closures.specs.Words.{is_blank}
use Rattle.td_closures.proofs.words.is_blank.Given as goal

abbrev pub invariant-loop-rest : goal.invariant-loop-rest
invariant-loop-rest l = is_blank l.fn.line ≡ is_blank l.rest

abbrev pub decreases-loop-rest : goal.decreases-loop-rest
decreases-loop-rest l = length l.rest
