use Rattle.std.proofs.Common.{◌++◌, ◌∙◌, map, replicate, sym, ap, subst, arith}
use Rattle.std.specs.List.{AllByRecursion}
use Rattle.std.specs.Map.{keys_of}
use Rattle.td_reach.specs.Paths.{IsOf}
use Rattle.td_progress.specs.Bag.{occurrences}
use Rattle.td_progress.specs.Gaps.{has_epoch, minus}
use Rattle.td_progress.specs.Held.{all_marked, total, between, class_of, chain_at, without_stamp, shifted, AllTimed, IsOfPlan, IsLaidOut, IsPosition}
use Rattle.td_progress.proofs.HeldCounts.{keys_of_plan}
use Rattle.td_progress.proofs.HeldMoves.{lowered, there_lowered, go_to, go_total, go_each, go_laid, IsLeft, left_total, left_each, left_laid}
use Rattle.td_progress.proofs.HeldSteps.{same_position}
use Rattle.td_progress.proofs.Marked.{is_held}
use Rattle.td_progress.proofs.Times.{are_marked, class_of_plan, timed_shifted, all_timed_without, all_timed_left, all_marked_left, position_shifted, position_without, went}
use Rattle.td_progress.proofs.held.Held.go.Goals as goal

pub step_from-requires-clause-zeroth : goal.step_from-requires-clause-zeroth
step_from-requires-clause-zeroth c = ap (λ s. s.time.epoch) c.class_of-class.ensures

pub step_from-requires-clause-class : goal.step_from-requires-clause-class
step_from-requires-clause-class c =
    subst (IsOf c.args.ways.now) (sym c.class_of-class.ensures)
    (class_of_plan c.args.ways.now c.args.self.now c.requires.kept c.args.stamp.now (omega (arith, c.requires.there, c.requires.all)))

pub step_from-requires-clause-each : goal.step_from-requires-clause-each
step_from-requires-clause-each c =
    let plan = c.args.ways.now in
    subst (λ ks. AllByRecursion (IsOfPlan plan) ks) (sym c.self.view_is) (keys_of_plan plan (between plan c.args.self.now) c.args.self.now c.requires.kept.each)

pub step_from-requires-clause-laid : goal.step_from-requires-clause-laid
step_from-requires-clause-laid c = subst (λ ks. IsLaidOut c.args.ways.now (keys_of ks)) (sym c.self.view_is) c.requires.kept.laid

pub take-requires-clause-position : goal.take-requires-clause-position
take-requires-clause-position c =
    subst (λ js. IsPosition c.class_of-class.result js c.args.index) (sym c.step_from.ensures)
    (position_shifted c.args.ways.now c.class_of-class.result c.epoch-epoch.result (minus 1) c.class_of-class.result c.self.inside.chains.entries c.args.index (same_position c.class_of-class.result (class_of c.args.stamp.now) c.self.inside.chains.entries c.args.self.now c.args.index c.class_of-class.ensures c.self.view_is c.requires.position))

pub take-requires-clause-there : goal.take-requires-clause-there
take-requires-clause-there c =
    let plan = c.args.ways.now in
    let ks = c.args.self.now in
    let p = c.args.stamp.now in
    let some = is_held plan ks (all_marked ks) (are_marked plan ks c.requires.kept (subst AllTimed c.self.view_is c.self.invariant.2)) p (omega (arith, c.requires.there, c.requires.all)) in
    let stepped = c.step_from.ensures ∙ (λ i. map (shifted plan (c.class_of-class.ensures i) (c.epoch-epoch.ensures i) (minus 1)) (c.self.view_is i)) in
    (λ i. has_epoch (c.epoch-epoch.ensures i) (chain_at (c.class_of-class.ensures i) (stepped i))) ∙ there_lowered plan ks c.requires.kept p some

pub drop_empty-requires-clause-position : goal.drop_empty-requires-clause-position
drop_empty-requires-clause-position c =
    subst (λ js. IsPosition c.class_of-class.result js c.args.index) (sym c.take.ensures.entries)
    (position_without c.class_of-class.result c.epoch-epoch.result c.class_of-class.result c.step_from.new.chains.entries c.args.index
    (subst (λ js. IsPosition c.class_of-class.result js c.args.index) (sym c.step_from.ensures)
    (position_shifted c.args.ways.now c.class_of-class.result c.epoch-epoch.result (minus 1) c.class_of-class.result c.self.inside.chains.entries c.args.index (same_position c.class_of-class.result (class_of c.args.stamp.now) c.self.inside.chains.entries c.args.self.now c.args.index c.class_of-class.ensures c.self.view_is c.requires.position))))

pub overflow_sub-self : goal.overflow_sub-self
overflow_sub-self c =
    let plan = c.args.ways.now in
    let ks = c.args.self.now in
    let p = c.args.stamp.now in
    let some = is_held plan ks (all_marked ks) (are_marked plan ks c.requires.kept (subst AllTimed c.self.view_is c.self.invariant.2)) p (omega (arith, c.requires.there, c.requires.all)) in
    let less = go_total plan ks c.requires.kept p some in
    let before = ap total c.self.view_is in
    omega (arith, less, before, c.self.invariant.0)

pub invariant_of-self : goal.invariant_of-self
invariant_of-self c =
    let plan = c.args.ways.now in
    let ks = c.args.self.now in
    let p = c.args.stamp.now in
    let timed = subst AllTimed c.self.view_is c.self.invariant.2 in
    let some = is_held plan ks (all_marked ks) (are_marked plan ks c.requires.kept timed) p (omega (arith, c.requires.there, c.requires.all)) in
    let stepped = c.step_from.ensures ∙ (λ i. map (shifted plan (c.class_of-class.ensures i) (c.epoch-epoch.ensures i) (minus 1)) (c.self.view_is i)) in
    let taken = c.take.ensures.entries ∙ (λ i. without_stamp (c.class_of-class.ensures i) (c.epoch-epoch.ensures i) (stepped i)) in
    let left = subst (λ js. IsLeft (class_of p) js c.drop_empty.new.chains.entries) taken
    (subst (λ k. IsLeft k c.take.new.chains.entries c.drop_empty.new.chains.entries) c.class_of-class.ensures c.drop_empty.ensures.entries) in
    let fewer = left_total plan (class_of p) (go_to plan ks c.requires.kept p some) c.drop_empty.new.chains.entries left in
    let less = go_total plan ks c.requires.kept p some in
    let before = ap total c.self.view_is in (
      omega (arith, fewer, less, before, c.self.invariant.0),
      omega (arith, fewer, less, before, c.self.invariant.1),
      all_timed_left (class_of p) (go_to plan ks c.requires.kept p some) c.drop_empty.new.chains.entries left
          (all_timed_without (class_of p) p.time.epoch (lowered plan ks c.requires.kept p some) (timed_shifted plan (class_of p) p.time.epoch (minus 1) ks timed)),
    )

pub returns-clause-kept : goal.returns-clause-kept
returns-clause-kept c =
    let plan = c.args.ways.now in
    let ks = c.args.self.now in
    let p = c.args.stamp.now in
    let some = is_held plan ks (all_marked ks) (are_marked plan ks c.requires.kept (subst AllTimed c.self.view_is c.self.invariant.2)) p (omega (arith, c.requires.there, c.requires.all)) in
    let stepped = c.step_from.ensures ∙ (λ i. map (shifted plan (c.class_of-class.ensures i) (c.epoch-epoch.ensures i) (minus 1)) (c.self.view_is i)) in
    let taken = c.take.ensures.entries ∙ (λ i. without_stamp (c.class_of-class.ensures i) (c.epoch-epoch.ensures i) (stepped i)) in
    let left = subst (λ js. IsLeft (class_of p) js c.drop_empty.new.chains.entries) taken
    (subst (λ k. IsLeft k c.take.new.chains.entries c.drop_empty.new.chains.entries) c.class_of-class.ensures c.drop_empty.ensures.entries) in
    let before = ap total c.self.view_is in
    record {
      once = c.drop_empty.ensures.once;
      laid = left_laid plan (class_of p) (go_to plan ks c.requires.kept p some) c.drop_empty.new.chains.entries left (go_laid plan ks c.requires.kept p some);
      each = left_each plan (class_of p) (go_to plan ks c.requires.kept p some) c.drop_empty.new.chains.entries left (go_each plan ks c.requires.kept p some (omega (arith, before, c.self.invariant.1)));
    }

pub returns-clause-less : goal.returns-clause-less
returns-clause-less c q =
    let plan = c.args.ways.now in
    let ks = c.args.self.now in
    let p = c.args.stamp.now in
    let some = is_held plan ks (all_marked ks) (are_marked plan ks c.requires.kept (subst AllTimed c.self.view_is c.self.invariant.2)) p (omega (arith, c.requires.there, c.requires.all)) in
    let stepped = c.step_from.ensures ∙ (λ i. map (shifted plan (c.class_of-class.ensures i) (c.epoch-epoch.ensures i) (minus 1)) (c.self.view_is i)) in
    let taken = c.take.ensures.entries ∙ (λ i. without_stamp (c.class_of-class.ensures i) (c.epoch-epoch.ensures i) (stepped i)) in
    let left = subst (λ js. IsLeft (class_of p) js c.drop_empty.new.chains.entries) taken
    (subst (λ k. IsLeft k c.take.new.chains.entries c.drop_empty.new.chains.entries) c.class_of-class.ensures c.drop_empty.ensures.entries) in
    went plan ks c.requires.kept p c.args.times c.requires.all some q
    ∙ ap (λ xs. occurrences q (replicate c.args.times p ++ xs)) (sym (all_marked_left (class_of p) (go_to plan ks c.requires.kept p some) c.drop_empty.new.chains.entries left))
