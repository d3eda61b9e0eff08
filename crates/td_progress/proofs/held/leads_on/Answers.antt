use Rattle.std.proofs.Common.{sym, ◌∙◌, subst}
use Rattle.td_reach.specs.Paths.{IsOf}
use Rattle.td_reach.specs.declared.stamp.Stamp.{Stamp}
use Rattle.td_progress.specs.Gaps.{first_from}
use Rattle.td_progress.proofs.Gaps.{Gaps}
use Rattle.td_progress.proofs.HeldSteps.{some_unless}
use Rattle.td_progress.proofs.Visits.{some_from, at_of_plan}
use Rattle.td_progress.proofs.held.leads_on.Goals as goal

pub could-requires-clause-to : goal.could-requires-clause-to
could-requires-clause-to c =
    let plan = c.args.ways.now in
    let k : Stamp × Gaps = (c.in-Some.other.now, c.in-Some.chain.now) in
    subst (λ l. IsOf l c.in-Some.other.now) (sym c.reach.ensures)
    (at_of_plan plan c.args.chains.now.entries c.requires.each c.args.index k (sym c.in-Some.ensures.entry)
    (some_from c.args.epoch c.in-Some.chain.now (some_unless (first_from c.args.epoch c.in-Some.chain.now) (sym c.is_before.ensures ∙ c.if-not-is_before.true))))
