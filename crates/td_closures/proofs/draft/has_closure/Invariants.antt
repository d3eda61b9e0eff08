use Rattle.std.proofs.Common.{◌≡◌, length, map}
use Rattle.td_closures.specs.Drafts.{has_closure}
use Rattle.td_closures.specs.Kept.{said_by}
use Rattle.td_closures.proofs.draft.has_closure.Given as goal

abbrev pub invariant-loop-rest : goal.invariant-loop-rest
invariant-loop-rest l = has_closure l.fn.kind l.fn.code (map said_by l.fn.closures) ≡ has_closure l.fn.kind l.fn.code (map said_by l.rest)

abbrev pub decreases-loop-rest : goal.decreases-loop-rest
decreases-loop-rest l = length l.rest
