use Rattle.std.proofs.Common.{◌+◌, ◌∙◌, [], sym, ap, subst, arith}
use Rattle.td_progress.specs.Gaps.{has_epoch, times_at}
use Rattle.td_progress.specs.Held.{class_of, total, chain_at, timed_stamp, AllTimed, AreHeld}
use Rattle.td_progress.proofs.Between.{total_timed}
use Rattle.td_progress.proofs.HeldSteps.{same_position}
use Rattle.td_progress.proofs.Times.{all_timed_timed, held_timed, stands_where, added}
use Rattle.td_progress.proofs.held.Held.add.Goals as goal

pub add_at-requires-clause-position : goal.add_at-requires-clause-position
add_at-requires-clause-position c =
    same_position c.class_of-class.result (class_of c.args.stamp.now) c.self.inside.chains.entries c.args.self.now c.args.index c.class_of-class.ensures c.self.view_is c.requires.position

pub add_at-requires-clause-there : goal.add_at-requires-clause-there
add_at-requires-clause-there c =
    (λ i. has_epoch (c.epoch.ensures i) (chain_at (c.class_of-class.ensures i) (c.self.view_is i)))
    ∙ stands_where c.args.stamp.now.time.epoch (chain_at (class_of c.args.stamp.now) c.args.self.now) c.requires.there

pub add_at-requires-clause-fits : goal.add_at-requires-clause-fits
add_at-requires-clause-fits c =
    let is =
    ap (λ ks. times_at c.epoch.result (chain_at c.class_of-class.result ks)) c.self.view_is
    ∙ (λ i. times_at (c.epoch.ensures i) (chain_at (c.class_of-class.ensures i) c.args.self.now)) in
    omega (arith, is, c.requires.fits)

pub invariant_of-self : goal.invariant_of-self
invariant_of-self c =
    let ks = c.args.self.now in
    let p = c.args.stamp.now in
    let all = c.add_at.ensures ∙ (λ i. timed_stamp (c.class_of-class.ensures i) (c.epoch.ensures i) (λ n. n + c.args.times) (c.self.view_is i)) in
    let same = ap total all ∙ total_timed [] ks (class_of p) p.time.epoch (λ n. n + c.args.times) in
    let before = ap total c.self.view_is in (
      omega (arith, same, before, c.self.invariant.0),
      omega (arith, same, before, c.self.invariant.1),
      subst AllTimed (sym all) (all_timed_timed (class_of p) p.time.epoch (λ n. n + c.args.times) ks (omega (arith, c.requires.there)) (subst AllTimed c.self.view_is c.self.invariant.2)),
    )

pub returns-clause-kept : goal.returns-clause-kept
returns-clause-kept c plan kept =
    let p = c.args.stamp.now in
    let all = c.add_at.ensures ∙ (λ i. timed_stamp (c.class_of-class.ensures i) (c.epoch.ensures i) (λ n. n + c.args.times) (c.self.view_is i)) in
    subst (AreHeld plan) (sym all) (held_timed plan c.args.self.now (class_of p) p.time.epoch (λ n. n + c.args.times) kept)

pub returns-clause-more : goal.returns-clause-more
returns-clause-more c q =
    let ks = c.args.self.now in
    let p = c.args.stamp.now in
    let all = c.add_at.ensures ∙ (λ i. timed_stamp (c.class_of-class.ensures i) (c.epoch.ensures i) (λ n. n + c.args.times) (c.self.view_is i)) in
    added q p c.args.times ks c.add_at.new.chains.entries (stands_where p.time.epoch (chain_at (class_of p) ks) c.requires.there) all
