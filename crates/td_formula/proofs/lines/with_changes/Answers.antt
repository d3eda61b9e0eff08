use Rattle.std.proofs.Common.{ap, ◌∙◌}
use Rattle.td_formula.specs.Environments.{named}
use Rattle.td_formula.specs.Closures.{assigned}
use Rattle.td_formula.proofs.Steps.{one_change}
use Rattle.td_formula.proofs.lines.with_changes.Goals as goal

pub loop-line-preserved : goal.loop-line-preserved
loop-line-preserved c =
    one_change c.args.lines.now (named c.args.before.now) (named c.loop-line.after) (named c.assign.new.after) c.loop-line.line-index c.line-item.result c.loop-line-test.true
    c.loop-line.invariant (c.assign.ensures ∙ ap (assigned (named c.args.before.now) (named c.loop-line.after)) c.line-item.is)
