use Rattle.std.proofs.Common.{◌++◌, replicate, sym, ap, ◌∙◌, subst, arith}
use Rattle.td_reach.specs.Paths.{IsOf}
use Rattle.td_progress.specs.Bag.{occurrences, IsSameBag}
use Rattle.td_progress.specs.Gaps.{times_at}
use Rattle.td_progress.specs.Held.{class_of, all_marked, AreHeld}
use Rattle.td_progress.proofs.HeldSteps.{gaps_found}
use Rattle.td_progress.proofs.Times.{occurs_at}
use Rattle.td_progress.proofs.table.Table.add_many.Goals as goal

pub position-index-requires-clause-of_plan : goal.position-index-requires-clause-of_plan
position-index-requires-clause-of_plan c = subst (λ a. IsOf a.plan c.args.stamp.now) (sym c.self.view_is) c.requires.of_plan

pub add-requires-clause-there : goal.add-requires-clause-there
add-requires-clause-there c =
    let at = c.times.ensures.is
    ∙ (λ i. times_at (c.epoch.ensures i) (gaps_found (class_of c.args.stamp.now) c.self.inside.held c.position-index.result c.self.invariant.once c.position-index.ensures i)) in
    omega (arith, at, c.if-times-gt0.true)

pub add-requires-clause-fits : goal.add-requires-clause-fits
add-requires-clause-fits c =
    let is = occurs_at c.self.inside.ways c.self.inside.held c.self.invariant c.args.stamp.now in
    let same = ap (λ a. occurrences c.args.stamp.now a.stamps) c.self.view_is in
    omega (arith, is, same, c.requires.fits)

pub invariant_of-self : goal.invariant_of-self
invariant_of-self c = c.add.ensures.kept c.self.inside.ways c.self.invariant

pub returns-then-times-gt0-clause-ok : goal.returns-then-times-gt0-clause-ok
returns-then-times-gt0-clause-ok c = subst (λ a. IsSameBag (all_marked c.add.new.self) (replicate c.args.times c.args.stamp.now ++ a.stamps)) c.self.view_is c.add.ensures.more

pub come-requires-clause-of_plan : goal.come-requires-clause-of_plan
come-requires-clause-of_plan c = subst (λ a. IsOf a.plan c.args.stamp.now) (sym c.self.view_is) c.requires.of_plan

pub come-requires-clause-new : goal.come-requires-clause-new
come-requires-clause-new c =
    let is = occurs_at c.self.inside.ways c.self.inside.held c.self.invariant c.args.stamp.now in
    let at = c.times.ensures.is
    ∙ (λ i. times_at (c.epoch.ensures i) (gaps_found (class_of c.args.stamp.now) c.self.inside.held c.position-index.result c.self.invariant.once c.position-index.ensures i)) in
    omega (arith, is, at, c.if-times-gt0.false)

pub come-requires-clause-some : goal.come-requires-clause-some
come-requires-clause-some c = omega (arith, c.if-times-eq0.false)

pub invariant_of-self-in_err-come : goal.invariant_of-self-in_err-come
invariant_of-self-in_err-come c = subst (AreHeld c.self.inside.ways) (sym c.in_err-come.ensures.err) c.self.invariant

pub returns-clause-ok : goal.returns-clause-ok
returns-clause-ok c = subst (λ a. IsSameBag (all_marked c.come.new.self) (replicate c.args.times c.args.stamp.now ++ a.stamps)) c.self.view_is c.in_ok-come.ensures.ok
