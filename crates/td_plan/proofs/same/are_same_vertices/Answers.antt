use Rattle.std.proofs.Common.{false}
use Rattle.std.specs.Prelude.{IsTrue}
use Rattle.td_plan.proofs.SamePlans.{bare, differing}
use Rattle.td_plan.proofs.same.are_same_vertices.Goals as goal

pub returns-then-not-same : goal.returns-then-not-same
returns-then-not-same c = (
  (λ (t : IsTrue false). absurd (cc)),
  (λ e. absurd (differing bare c.args.some.now c.args.others.now c.loop-i.i c.index-some-i.result c.index-others-i.result c.loop-i-test.true c.loop-i.invariant.1 c.index-some-i.is c.index-others-i.is
      (λ s. let t = c.same.ensures.1 s in let f = c.if-not-same.true in cc) e)),
)
