use Rattle.std.proofs.Common.{◌≡◌, take}
use Rattle.td_formula.specs.Environments.{named}
use Rattle.td_formula.specs.Closures.{with_lets}
use Rattle.td_formula.proofs.lines.with_lets.Given as goal

abbrev pub invariant-loop-line : goal.invariant-loop-line
invariant-loop-line l = named l.at ≡ with_lets (take l.line-index l.lines) (named l.fn.start)
