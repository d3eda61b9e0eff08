use Rattle.std.proofs.Common.{◌≡◌, drop}
use Rattle.std.specs.Prelude.{find}
use Rattle.td_formula.specs.Written.{is_at}
use Rattle.td_formula.proofs.written.closure_at.Given as goal

abbrev pub invariant-loop-closure : goal.invariant-loop-closure
invariant-loop-closure l = find (is_at l.kind l.code) l.closures ≡ find (is_at l.kind l.code) (drop l.closure-index l.closures)
