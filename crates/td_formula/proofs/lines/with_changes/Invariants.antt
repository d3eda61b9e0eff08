use Rattle.std.proofs.Common.{◌≡◌, take}
use Rattle.td_formula.specs.Environments.{named}
use Rattle.td_formula.specs.Closures.{with_changes}
use Rattle.td_formula.proofs.lines.with_changes.Given as goal

abbrev pub invariant-loop-line : goal.invariant-loop-line
invariant-loop-line l = named l.after ≡ with_changes (take l.line-index l.lines) (named l.before)
