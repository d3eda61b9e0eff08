use Rattle.std.proofs.Common.{ap, ◌∙◌, drop}
use Rattle.td_core.proofs.CutSteps.{drop_next}
use Rattle.td_core.proofs.cut.drop_first.Goals as goal

pub loop-each-preserved : goal.loop-each-preserved
loop-each-preserved c = c.pop_front.ensures.rest ∙ (ap (drop 1) c.loop-each.invariant ∙ drop_next c.loop-each._each c.args.batches.now.items)
