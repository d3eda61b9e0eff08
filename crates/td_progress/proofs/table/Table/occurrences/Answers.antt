use Rattle.std.proofs.Common.{sym, ap, ◌∙◌, subst, true≢false}
use Rattle.td_reach.specs.Paths.{IsOf}
use Rattle.td_progress.specs.Bag.{occurrences}
use Rattle.td_progress.specs.Gaps.{times_at}
use Rattle.td_progress.specs.Held.{class_of}
use Rattle.td_progress.proofs.HeldSteps.{gaps_found}
use Rattle.td_progress.proofs.Times.{occurs_at, none_unless}
use Rattle.td_progress.proofs.table.Table.occurrences.Goals as goal

pub position-index-requires-clause-of_plan : goal.position-index-requires-clause-of_plan
position-index-requires-clause-of_plan c = subst (λ a. IsOf a.plan c.args.stamp.now) (sym c.self.view_is) (c.has.ensures.0 c.if-has.true)

pub returns-then-has : goal.returns-then-has
returns-then-has c =
    let p = c.args.stamp.now in
    let at = c.times.ensures.is
    ∙ (λ i. times_at (c.epoch.ensures i) (gaps_found (class_of c.args.stamp.now) c.self.inside.held c.position-index.result c.self.invariant.once c.position-index.ensures i)) in
    at ∙ (sym (occurs_at c.self.inside.ways c.self.inside.held c.self.invariant p) ∙ ap (λ a. occurrences p a.stamps) c.self.view_is)

pub returns-else-has : goal.returns-else-has
returns-else-has c =
    let p = c.args.stamp.now in
    sym (ap (λ a. occurrences p a.stamps) (sym c.self.view_is)
    ∙ none_unless c.self.inside.ways c.self.inside.held c.self.invariant p (λ of_plan. true≢false (sym (c.has.ensures.1 (subst (λ a. IsOf a.plan p) c.self.view_is of_plan)) ∙ c.if-has.false)))
