use Rattle.std.proofs.Common.{◌-◌, ◌∙◌, [], sym, ap, subst, arith}
use Rattle.td_progress.specs.Gaps.{has_epoch, times_at}
use Rattle.td_progress.specs.Held.{class_of, total, chain_at, timed_stamp, AllTimed, AreHeld}
use Rattle.td_progress.proofs.Between.{total_timed}
use Rattle.td_progress.proofs.HeldSteps.{same_position}
use Rattle.td_progress.proofs.Times.{all_timed_timed, held_timed, stands_where, taken}
use Rattle.td_progress.proofs.held.Held.take_off.Goals as goal

pub take_off_at-requires-clause-position : goal.take_off_at-requires-clause-position
take_off_at-requires-clause-position c =
    same_position c.class_of-class.result (class_of c.args.stamp.now) c.self.inside.chains.entries c.args.self.now c.args.index c.class_of-class.ensures c.self.view_is c.requires.position

pub take_off_at-requires-clause-there : goal.take_off_at-requires-clause-there
take_off_at-requires-clause-there c =
    (λ i. has_epoch (c.epoch.ensures i) (chain_at (c.class_of-class.ensures i) (c.self.view_is i)))
    ∙ stands_where c.args.stamp.now.time.epoch (chain_at (class_of c.args.stamp.now) c.args.self.now) (omega (arith, c.requires.enough))

pub take_off_at-requires-clause-enough : goal.take_off_at-requires-clause-enough
take_off_at-requires-clause-enough c =
    let is =
    ap (λ ks. times_at c.epoch.result (chain_at c.class_of-class.result ks)) c.self.view_is
    ∙ (λ i. times_at (c.epoch.ensures i) (chain_at (c.class_of-class.ensures i) c.args.self.now)) in
    omega (arith, is, c.requires.enough)

pub invariant_of-self : goal.invariant_of-self
invariant_of-self c =
    let ks = c.args.self.now in
    let p = c.args.stamp.now in
    let all = c.take_off_at.ensures ∙ (λ i. timed_stamp (c.class_of-class.ensures i) (c.epoch.ensures i) (λ n. n - c.args.times) (c.self.view_is i)) in
    let same = ap total all ∙ total_timed [] ks (class_of p) p.time.epoch (λ n. n - c.args.times) in
    let before = ap total c.self.view_is in (
      omega (arith, same, before, c.self.invariant.0),
      omega (arith, same, before, c.self.invariant.1),
      subst AllTimed (sym all) (all_timed_timed (class_of p) p.time.epoch (λ n. n - c.args.times) ks (omega (arith, c.requires.enough)) (subst AllTimed c.self.view_is c.self.invariant.2)),
    )

pub returns-clause-kept : goal.returns-clause-kept
returns-clause-kept c plan kept =
    let p = c.args.stamp.now in
    let all = c.take_off_at.ensures ∙ (λ i. timed_stamp (c.class_of-class.ensures i) (c.epoch.ensures i) (λ n. n - c.args.times) (c.self.view_is i)) in
    subst (AreHeld plan) (sym all) (held_timed plan c.args.self.now (class_of p) p.time.epoch (λ n. n - c.args.times) kept)

pub returns-clause-less : goal.returns-clause-less
returns-clause-less c q =
    let ks = c.args.self.now in
    let p = c.args.stamp.now in
    let all = c.take_off_at.ensures ∙ (λ i. timed_stamp (c.class_of-class.ensures i) (c.epoch.ensures i) (λ n. n - c.args.times) (c.self.view_is i)) in
    taken q p c.args.times ks c.take_off_at.new.chains.entries (stands_where p.time.epoch (chain_at (class_of p) ks) (omega (arith, c.requires.enough))) all (omega (arith, c.requires.enough))
