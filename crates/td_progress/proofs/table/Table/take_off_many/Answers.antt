use Rattle.std.proofs.Common.{◌++◌, replicate, ap, ◌∙◌, subst, arith}
use Rattle.td_progress.specs.Bag.{occurrences, IsSameBag}
use Rattle.td_progress.specs.Gaps.{times_at}
use Rattle.td_progress.specs.Held.{class_of, all_marked}
use Rattle.td_progress.proofs.HeldSteps.{gaps_found}
use Rattle.td_progress.proofs.Times.{occurs_at, of_plan_where}
use Rattle.td_progress.proofs.table.Table.take_off_many.Goals as goal

pub position-index-requires-clause-of_plan : goal.position-index-requires-clause-of_plan
position-index-requires-clause-of_plan c =
    let same = ap (λ a. occurrences c.args.stamp.now a.stamps) c.self.view_is in
    of_plan_where c.self.inside.ways c.self.inside.held c.self.invariant c.args.stamp.now (omega (arith, same, c.requires, c.if-times-eq0.false))

pub take_off-requires-clause-enough : goal.take_off-requires-clause-enough
take_off-requires-clause-enough c =
    let at = c.times.ensures.is
    ∙ (λ i. times_at (c.epoch.ensures i) (gaps_found (class_of c.args.stamp.now) c.self.inside.held c.position-index.result c.self.invariant.once c.position-index.ensures i)) in
    omega (arith, at, c.from.ensures, c.if-times-from.true)

pub invariant_of-self : goal.invariant_of-self
invariant_of-self c = c.take_off.ensures.kept c.self.inside.ways c.self.invariant

pub returns-then-times-from-clause-stamps : goal.returns-then-times-from-clause-stamps
returns-then-times-from-clause-stamps c =
    subst (λ a. IsSameBag a.stamps (replicate c.args.times c.args.stamp.now ++ all_marked c.take_off.new.self)) c.self.view_is c.take_off.ensures.less

pub go-requires-clause-there : goal.go-requires-clause-there
go-requires-clause-there c = omega (arith, c.if-times-eq0.false)

pub go-requires-clause-all : goal.go-requires-clause-all
go-requires-clause-all c =
    let is = occurs_at c.self.inside.ways c.self.inside.held c.self.invariant c.args.stamp.now in
    let same = ap (λ a. occurrences c.args.stamp.now a.stamps) c.self.view_is in
    let at = c.times.ensures.is
    ∙ (λ i. times_at (c.epoch.ensures i) (gaps_found (class_of c.args.stamp.now) c.self.inside.held c.position-index.result c.self.invariant.once c.position-index.ensures i)) in
    omega (arith, is, same, at, c.from.ensures, c.if-times-from.false, c.requires)

pub returns-else-times-from-clause-stamps : goal.returns-else-times-from-clause-stamps
returns-else-times-from-clause-stamps c =
    subst (λ a. IsSameBag a.stamps (replicate c.args.times c.args.stamp.now ++ all_marked c.go.new.self)) c.self.view_is c.go.ensures.less
