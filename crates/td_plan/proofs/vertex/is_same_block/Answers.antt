use Rattle.td_plan.proofs.SameLoops.{differ, agree}
use Rattle.td_plan.proofs.vertex.is_same_block.Goals as goal

pub returns-then-each-others : goal.returns-then-each-others
returns-then-each-others c = differ c.args.some.now c.args.others.now c.loop-i.i _ c.loop-i-test.true c.loop-i.invariant.1 c.if-each-others.true

pub returns : goal.returns
returns c = agree c.args.some.now c.args.others.now c.loop-i.i c.loop-i-test.false c.loop-i.invariant.1 c.loop-i.invariant.0
