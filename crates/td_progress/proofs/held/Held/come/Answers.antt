use Rattle.std.proofs.Common.{◌∙◌, map, sym, ap, subst, arith}
use Rattle.std.specs.List.{AllByRecursion, IsDistinct}
use Rattle.std.specs.Map.{keys_of}
use Rattle.td_reach.specs.Paths.{IsOf}
use Rattle.td_progress.specs.Bag.{is_stamp, occurrences}
use Rattle.td_progress.specs.Gaps.{Mark, has_epoch, start_of, plus}
use Rattle.td_progress.specs.Held.{all_marked, total, between, class_of, chain_at, with_stamp, shifted, AllTimed, IsOfPlan, IsLaidOut, AreHeld}
use Rattle.td_progress.proofs.HeldMoves.{new_epoch, come_total, come_kept}
use Rattle.td_progress.proofs.HeldCounts.{keys_of_plan, keys_with, other_epoch}
use Rattle.td_progress.proofs.HeldSteps.{gaps_found, same_position}
use Rattle.td_progress.proofs.Laid.{laid_with}
use Rattle.td_progress.proofs.Marked.{not_held}
use Rattle.td_progress.proofs.Times.{are_marked, all_timed_with, timed_shifted, came}
use Rattle.td_progress.proofs.held.Held.come.Goals as goal

pub put-requires-clause-position : goal.put-requires-clause-position
put-requires-clause-position c =
    same_position c.class_of-class.result (class_of c.args.stamp.now) c.self.inside.chains.entries c.args.self.now c.args.index c.class_of-class.ensures c.self.view_is c.requires.position

pub put-requires-clause-new : goal.put-requires-clause-new
put-requires-clause-new c =
    let plan = c.args.ways.now in
    let ks = c.args.self.now in
    let p = c.args.stamp.now in
    let none = not_held plan ks (all_marked ks) (are_marked plan ks c.requires.kept (subst AllTimed c.self.view_is c.self.invariant.2)) p c.requires.new in
    ap (λ js. has_epoch c.epoch-epoch.result (chain_at c.class_of-class.result js)) c.self.view_is
    ∙ (λ i. has_epoch (c.epoch-epoch.ensures i) (chain_at (c.class_of-class.ensures i) ks))
    ∙ new_epoch plan ks c.requires.kept p none

pub gap_for-gap-requires-clause-class : goal.gap_for-gap-requires-clause-class
gap_for-gap-requires-clause-class c = subst (IsOf c.args.ways.now) (sym c.class_of-class.ensures) (other_epoch c.args.ways.now c.args.stamp.now 0 c.requires.of_plan)

pub gap_for-gap-requires-clause-each : goal.gap_for-gap-requires-clause-each
gap_for-gap-requires-clause-each c =
    let plan = c.args.ways.now in
    subst (λ ks. AllByRecursion (IsOfPlan plan) ks) (sym c.self.view_is) (keys_of_plan plan (between plan c.args.self.now) c.args.self.now c.requires.kept.each)

pub gap_for-gap-requires-clause-laid : goal.gap_for-gap-requires-clause-laid
gap_for-gap-requires-clause-laid c = subst (λ ks. IsLaidOut c.args.ways.now (keys_of ks)) (sym c.self.view_is) c.requires.kept.laid

pub step_from-requires-clause-zeroth : goal.step_from-requires-clause-zeroth
step_from-requires-clause-zeroth c = ap (λ s. s.time.epoch) c.class_of-class.ensures

pub step_from-requires-clause-class : goal.step_from-requires-clause-class
step_from-requires-clause-class c = subst (IsOf c.args.ways.now) (sym c.class_of-class.ensures) (other_epoch c.args.ways.now c.args.stamp.now 0 c.requires.of_plan)

pub step_from-requires-clause-laid : goal.step_from-requires-clause-laid
step_from-requires-clause-laid c =
    let m : Mark = record { gap = c.gap_for-gap.result; times = c.args.times } in
    subst (λ ks. IsLaidOut c.args.ways.now (keys_of ks)) (sym (c.in_ok-put.ensures.ok ∙ (λ i. with_stamp (c.class_of-class.ensures i) (c.epoch-epoch.ensures i) m (c.self.view_is i))))
    (laid_with c.args.ways.now (class_of c.args.stamp.now) c.args.stamp.now.time.epoch m c.args.self.now c.requires.kept.laid)

pub step_from-requires-clause-each : goal.step_from-requires-clause-each
step_from-requires-clause-each c =
    let m : Mark = record { gap = c.gap_for-gap.result; times = c.args.times } in
    subst (λ ks. AllByRecursion (IsOfPlan c.args.ways.now) ks) (sym (c.in_ok-put.ensures.ok ∙ (λ i. with_stamp (c.class_of-class.ensures i) (c.epoch-epoch.ensures i) m (c.self.view_is i))))
    (keys_with c.args.ways.now c.args.self.now c.requires.kept c.args.stamp.now c.requires.of_plan m)

pub invariant_of-self-2 : goal.invariant_of-self-2
invariant_of-self-2 c =
    let plan = c.args.ways.now in
    let ks = c.args.self.now in
    let p = c.args.stamp.now in
    let m : Mark = record { gap = c.gap_for-gap.result; times = c.args.times } in
    let made = c.in_ok-put.ensures.ok ∙ (λ i. with_stamp (c.class_of-class.ensures i) (c.epoch-epoch.ensures i) m (c.self.view_is i)) in
    let all = c.step_from.ensures ∙ (λ i. map (shifted plan (c.class_of-class.ensures i) (c.epoch-epoch.ensures i) (plus 1)) (made i)) in
    let more = ap total all ∙ come_total plan ks c.requires.kept p m in
    let before = ap total c.self.view_is in
    let timed = subst AllTimed c.self.view_is c.self.invariant.2 in (
      omega (arith, more, before, c.self.invariant.0, c.in-Some.ensures.1),
      omega (arith, more, before, c.self.invariant.0, c.in-Some.ensures.0),
      subst AllTimed (sym all) (timed_shifted plan (class_of p) p.time.epoch (plus 1) (with_stamp (class_of p) p.time.epoch m ks) (all_timed_with (class_of p) p.time.epoch m ks c.requires.some timed)),
    )

pub returns-clause-kept : goal.returns-clause-kept
returns-clause-kept c =
    let plan = c.args.ways.now in
    let ks = c.args.self.now in
    let p = c.args.stamp.now in
    let m : Mark = record { gap = c.gap_for-gap.result; times = c.args.times } in
    let es = c.self.inside.chains.entries in
    let k = c.class_of-class.result in
    let e = c.epoch-epoch.result in
    let made = c.in_ok-put.ensures.ok ∙ (λ i. with_stamp (c.class_of-class.ensures i) (c.epoch-epoch.ensures i) m (c.self.view_is i)) in
    let all = c.step_from.ensures ∙ (λ i. map (shifted plan (c.class_of-class.ensures i) (c.epoch-epoch.ensures i) (plus 1)) (made i)) in
    let once = subst (λ js. IsDistinct is_stamp (keys_of js)) (sym c.self.view_is) c.requires.kept.once in
    let is = c.gap_for-gap.ensures
    ∙ (ap (λ gs. between plan es k (start_of 0 e gs) e) (gaps_found k es c.args.index once (same_position c.class_of-class.result (class_of c.args.stamp.now) c.self.inside.chains.entries c.args.self.now c.args.index c.class_of-class.ensures c.self.view_is c.requires.position))
    ∙ (λ i. between plan (c.self.view_is i) (c.class_of-class.ensures i) (start_of 0 (c.epoch-epoch.ensures i) (chain_at (c.class_of-class.ensures i) (c.self.view_is i))) (c.epoch-epoch.ensures i))) in
    let before = ap total c.self.view_is in
    let none = not_held plan ks (all_marked ks) (are_marked plan ks c.requires.kept (subst AllTimed c.self.view_is c.self.invariant.2)) p c.requires.new in
    subst (AreHeld plan) (sym all)
    (come_kept plan ks c.requires.kept p m c.requires.of_plan none is (omega (arith, before, c.self.invariant.0, c.in-Some.ensures.0))
    (subst (λ js. IsDistinct is_stamp (keys_of js)) made c.in_ok-put.ensures.once))

pub returns-clause-ok : goal.returns-clause-ok
returns-clause-ok c q =
    let plan = c.args.ways.now in
    let p = c.args.stamp.now in
    let m : Mark = record { gap = c.gap_for-gap.result; times = c.args.times } in
    let made = c.in_ok-put.ensures.ok ∙ (λ i. with_stamp (c.class_of-class.ensures i) (c.epoch-epoch.ensures i) m (c.self.view_is i)) in
    let all = c.step_from.ensures ∙ (λ i. map (shifted plan (c.class_of-class.ensures i) (c.epoch-epoch.ensures i) (plus 1)) (made i)) in
    ap (λ js. occurrences q (all_marked js)) all ∙ came plan q p m c.args.self.now
