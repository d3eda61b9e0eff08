use Rattle.std.proofs.Common.{subst, arith}
use Rattle.std.proofs.lemmas.Grind.{common_steps}
use Rattle.td_progress.specs.Gaps.{AreRising}
use Rattle.td_progress.proofs.ChainSteps.{count_is}
use Rattle.td_progress.proofs.chain.Chain.count.Goals as goal

pub overflow_sub-result : goal.overflow_sub-result
overflow_sub-result c =
    let all = count_is 0 c.args.upto c.args.from c.args.self.now (subst (AreRising 0) c.self.view_is c.self.invariant) c.requires in
    grind (arith, common_steps, all, c.place-end.ensures.is, c.is_at.ensures.is, c.from-own.ensures, c.place.ensures.is)

pub returns : goal.returns
returns c =
    let all = count_is 0 c.args.upto c.args.from c.args.self.now (subst (AreRising 0) c.self.view_is c.self.invariant) c.requires in
    grind (arith, common_steps, all, c.place-end.ensures.is, c.is_at.ensures.is, c.from-own.ensures, c.place.ensures.is)
