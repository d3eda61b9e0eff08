use Rattle.std.proofs.Common.{ap, ◌∙◌}
use Rattle.td_formula.specs.Environments.{named}
use Rattle.td_formula.specs.Closures.{assigned}
use Rattle.td_formula.proofs.Steps.{one_let}
use Rattle.td_formula.proofs.lines.with_lets.Goals as goal

pub loop-line-preserved : goal.loop-line-preserved
loop-line-preserved c =
    one_let c.args.lines.now (named c.args.start) (named c.copy-before.result) (named c.loop-line.at) (named c.assign.new.after) c.loop-line.line-index c.line-item.result c.loop-line-test.true
    c.loop-line.invariant (ap named c.copy-before.ensures) (c.assign.ensures ∙ ap (assigned (named c.copy-before.result) (named c.loop-line.at)) c.line-item.is)
