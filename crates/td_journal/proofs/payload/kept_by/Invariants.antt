use Rattle.td_journal.proofs.Parsing.{Looked}
use Rattle.td_journal.proofs.payload.kept_by.Given as goal

abbrev pub invariant-loop-i : goal.invariant-loop-i
invariant-loop-i g l = Looked (g.K.Keeping.Took l.keeping) l.inputs l.i-end l.i l.payload l.last
