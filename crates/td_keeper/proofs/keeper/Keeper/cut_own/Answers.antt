use Rattle.std.proofs.Common.{◌≡◌, ◌≤◌, ◌-◌, true, sym, ap, ◌∙◌, subst, inl, arith, rules}
use Rattle.td_plan.specs.Tree.{tree_of}
use Rattle.td_batch.specs.Meaning.{states_after}
use Rattle.td_store.specs.standing.Standing.{batches_of}
use Rattle.td_machine.specs.State.{HallState}
use Rattle.td_machine.specs.Active.{has_passed}
use Rattle.td_machine.specs.Steps.{cut_at_by}
use Rattle.td_keeper.specs.Keeping.{Keeping, IsKeeping, keeping_of}
use Rattle.td_keeper.specs.Refused.{cut_refusal}
use Rattle.td_keeper.specs.Halls.{IsOwn, StaysOwn, with_collected, with_cut, collected_hall, cut_hall_up_to, last_passed, cut_place}
use Rattle.td_keeper.proofs.Collecting.{own_after, cut_is, is_last, place_after, place_before, place_has_passed, cut_right, cut_meaning}
use Rattle.td_keeper.proofs.Since.{keeps_further}
use Rattle.td_keeper.proofs.Owning.{stays_at, stays_itself, stays_collected, stays_cut, stays_then}
use Rattle.td_keeper.proofs.keeper.Keeper.cut_own.Goals as goal

pub returns-in-Err-clause-refused : goal.returns-in-Err-clause-refused
returns-in-Err-clause-refused g c =
    let now = c.in_ok-bring_in.ensures.collected in
    let same : cut_refusal c.bring_in.new.self (g.H.AnyHall.state c.bring_in.new.hall) ≡ cut_refusal c.args.self.now (g.H.AnyHall.state c.args.hall.now) = λ i. cut_refusal (now.0 i) (now.1 i) in
    inl (sym same ∙ c.in-Err.ensures.refused)

pub cut_at_epoch-requires-clause-after : goal.cut_at_epoch-requires-clause-after
cut_at_epoch-requires-clause-after g c =
    let now = c.in_ok-bring_in.ensures.collected in
    let keeping = subst (λ (q : Keeping g.row.D.Denot). IsKeeping q g.L.Law.answers) c.self.view_is c.self.invariant.1 in
    let own : IsOwn c.bring_in.new.self (g.H.AnyHall.state c.bring_in.new.hall) = subst (λ (q : Keeping g.row.D.Denot). IsOwn q (g.H.AnyHall.state c.bring_in.new.hall)) (sym now.0) (subst (IsOwn (with_collected c.args.self.now (g.H.AnyHall.state c.args.hall.now))) (sym now.1) (own_after c.args.self.now (g.H.AnyHall.state c.args.hall.now) c.requires)) in
    let passed = c.base_has_passed.ensures (g.H.AnyHall.state c.bring_in.new.hall) c.each_is_sound-2.ensures.reached in
    let after = place_after g.L.Law.answers c.run_joins.ensures.states c.run_joins.ensures.outs c.bring_in.new.self keeping (g.H.AnyHall.state c.bring_in.new.hall) own c.each_is_sound-2.ensures.sound c.args.most passed in
    omega (arith, after, c.in-Ok.ensures.epoch)

pub cut_at_epoch-requires-clause-released : goal.cut_at_epoch-requires-clause-released
cut_at_epoch-requires-clause-released g c =
    let now = c.in_ok-bring_in.ensures.collected in
    let keeping = subst (λ (q : Keeping g.row.D.Denot). IsKeeping q g.L.Law.answers) c.self.view_is c.self.invariant.1 in
    let own : IsOwn c.bring_in.new.self (g.H.AnyHall.state c.bring_in.new.hall) = subst (λ (q : Keeping g.row.D.Denot). IsOwn q (g.H.AnyHall.state c.bring_in.new.hall)) (sym now.0) (subst (IsOwn (with_collected c.args.self.now (g.H.AnyHall.state c.args.hall.now))) (sym now.1) (own_after c.args.self.now (g.H.AnyHall.state c.args.hall.now) c.requires)) in
    let passed = c.base_has_passed.ensures (g.H.AnyHall.state c.bring_in.new.hall) c.each_is_sound-2.ensures.reached in
    let last = is_last g.L.Law.answers c.run_joins.ensures.states c.run_joins.ensures.outs c.bring_in.new.self keeping (g.H.AnyHall.state c.bring_in.new.hall) own c.each_is_sound-2.ensures.sound passed in
    let before = place_before g.L.Law.answers c.run_joins.ensures.states c.run_joins.ensures.outs c.bring_in.new.self keeping (g.H.AnyHall.state c.bring_in.new.hall) own c.each_is_sound-2.ensures.sound c.args.most passed in
    omega (arith, last.before, before, c.in-Ok.ensures.epoch)

pub invariant_of-self : goal.invariant_of-self
invariant_of-self g c =
    let now = c.in_ok-bring_in.ensures.collected in
    let q : Keeping g.row.D.Denot = keeping_of c.self.inside.device c.self.inside.plan c.self.inside.head c.self.inside.checkpoint c.self.inside.submitted.items c.self.inside.broken c.self.inside.taken c.self.inside.collected c.self.inside.queue.items c.self.inside.watch in
    let own : IsOwn q (g.H.AnyHall.state c.bring_in.new.hall) = subst (λ (p : Keeping g.row.D.Denot). IsOwn p (g.H.AnyHall.state c.bring_in.new.hall)) (sym (c.self.view_is ∙ now.0)) (subst (IsOwn (with_collected c.args.self.now (g.H.AnyHall.state c.args.hall.now))) (sym now.1) (own_after c.args.self.now (g.H.AnyHall.state c.args.hall.now) c.requires)) in
    let passed = c.base_has_passed.ensures (g.H.AnyHall.state c.bring_in.new.hall) c.each_is_sound-2.ensures.reached in
    let last = is_last g.L.Law.answers c.run_joins.ensures.states c.run_joins.ensures.outs q c.self.invariant.1 (g.H.AnyHall.state c.bring_in.new.hall) own c.each_is_sound-2.ensures.sound passed in
    let after = place_after g.L.Law.answers c.run_joins.ensures.states c.run_joins.ensures.outs q c.self.invariant.1 (g.H.AnyHall.state c.bring_in.new.hall) own c.each_is_sound-2.ensures.sound c.args.most passed in
    let before = place_before g.L.Law.answers c.run_joins.ensures.states c.run_joins.ensures.outs q c.self.invariant.1 (g.H.AnyHall.state c.bring_in.new.hall) own c.each_is_sound-2.ensures.sound c.args.most passed in
    let there : has_passed (g.H.AnyHall.state c.bring_in.new.hall) c.in-Ok.last ≡ true = ap (has_passed (g.H.AnyHall.state c.bring_in.new.hall)) c.in-Ok.ensures.epoch
    ∙ place_has_passed g.L.Law.answers c.run_joins.ensures.states c.run_joins.ensures.outs q c.self.invariant.1 (g.H.AnyHall.state c.bring_in.new.hall) own c.each_is_sound-2.ensures.sound c.args.most passed in
    let is = cut_is (g.H.AnyHall.state c.bring_in.new.hall) (g.H.AnyHall.state c.cut_at_epoch.new.self) c.in-Ok.last c.in-Ok-cut_at_epoch.field-0.epoch c.in-Ok-cut_at_epoch.field-0.states (has_passed (g.H.AnyHall.state c.bring_in.new.hall) c.in-Ok.last) there c.in-Ok-cut_at_epoch.ensures.cut in
    let far : last_passed (g.H.AnyHall.state c.bring_in.new.hall) ≤ q.collected =
    let low = c.collects_what_is_meant.ensures.far in
    let here = ap last_passed now.1 in
    let count = ap (λ (p : Keeping g.row.D.Denot). p.collected) (c.self.view_is ∙ now.0) in
    omega (arith, low, here, count) in (
      c.self.invariant.0,
      cut_right g.L.Law.answers c.run_joins.ensures.states c.run_joins.ensures.outs q c.self.invariant.1 (g.H.AnyHall.state c.bring_in.new.hall) own c.each_is_sound-2.ensures.sound c.in-Ok-cut_at_epoch.field-0.epoch
          (omega (arith, is.0, c.in-Ok.ensures.epoch, after)) (omega (arith, is.0, c.in-Ok.ensures.epoch, last.before, before)) (omega (arith, is.0, c.in-Ok.ensures.epoch, before, far))
          c.in-Ok-cut_at_epoch.field-0.states c.in-Ok-cut_at_epoch.ensures.meaning,
      c.self.invariant.2,
      c.self.invariant.3,
      λ lawful. keeps_further c.self.inside.broken c.self.inside.plan q.base c.in-Ok-cut_at_epoch.field-0.epoch (g.D.Disk.view c.self.inside.device).state (omega (arith, is.0, c.in-Ok.ensures.epoch, after, own.base)) (c.self.invariant.4 lawful),
    )

pub returns-clause-accepted : goal.returns-clause-accepted
returns-clause-accepted g c =
    let now = c.in_ok-bring_in.ensures.collected in
    let same : cut_refusal c.bring_in.new.self (g.H.AnyHall.state c.bring_in.new.hall) ≡ cut_refusal c.args.self.now (g.H.AnyHall.state c.args.hall.now) = λ i. cut_refusal (now.0 i) (now.1 i) in
    sym same ∙ c.in-Ok.ensures.accepted

pub returns-clause-cut : goal.returns-clause-cut
returns-clause-cut g c =
    let now = c.in_ok-bring_in.ensures.collected in
    let q : Keeping g.row.D.Denot = keeping_of c.self.inside.device c.self.inside.plan c.self.inside.head c.self.inside.checkpoint c.self.inside.submitted.items c.self.inside.broken c.self.inside.taken c.self.inside.collected c.self.inside.queue.items c.self.inside.watch in
    let view : q ≡ with_collected c.args.self.now (g.H.AnyHall.state c.args.hall.now) = c.self.view_is ∙ now.0 in
    let own : IsOwn q (g.H.AnyHall.state c.bring_in.new.hall) = subst (λ (p : Keeping g.row.D.Denot). IsOwn p (g.H.AnyHall.state c.bring_in.new.hall)) (sym view) (subst (IsOwn (with_collected c.args.self.now (g.H.AnyHall.state c.args.hall.now))) (sym now.1) (own_after c.args.self.now (g.H.AnyHall.state c.args.hall.now) c.requires)) in
    let passed = c.base_has_passed.ensures (g.H.AnyHall.state c.bring_in.new.hall) c.each_is_sound-2.ensures.reached in
    let after = place_after g.L.Law.answers c.run_joins.ensures.states c.run_joins.ensures.outs q c.self.invariant.1 (g.H.AnyHall.state c.bring_in.new.hall) own c.each_is_sound-2.ensures.sound c.args.most passed in
    let before = place_before g.L.Law.answers c.run_joins.ensures.states c.run_joins.ensures.outs q c.self.invariant.1 (g.H.AnyHall.state c.bring_in.new.hall) own c.each_is_sound-2.ensures.sound c.args.most passed in
    let there : has_passed (g.H.AnyHall.state c.bring_in.new.hall) c.in-Ok.last ≡ true = ap (has_passed (g.H.AnyHall.state c.bring_in.new.hall)) c.in-Ok.ensures.epoch
    ∙ place_has_passed g.L.Law.answers c.run_joins.ensures.states c.run_joins.ensures.outs q c.self.invariant.1 (g.H.AnyHall.state c.bring_in.new.hall) own c.each_is_sound-2.ensures.sound c.args.most passed in
    let is = cut_is (g.H.AnyHall.state c.bring_in.new.hall) (g.H.AnyHall.state c.cut_at_epoch.new.self) c.in-Ok.last c.in-Ok-cut_at_epoch.field-0.epoch c.in-Ok-cut_at_epoch.field-0.states (has_passed (g.H.AnyHall.state c.bring_in.new.hall) c.in-Ok.last) there c.in-Ok-cut_at_epoch.ensures.cut in
    let epochs : c.in-Ok-cut_at_epoch.field-0.epoch ≡ (g.H.AnyHall.state c.cut_at_epoch.new.self).base = is.0 ∙ sym (ap (λ (U : HallState). U.base) is.2) in
    let states : c.in-Ok-cut_at_epoch.field-0.states ≡ (g.H.AnyHall.state c.cut_at_epoch.new.self).base_states = is.1 ∙ sym (ap (λ (U : HallState). U.base_states) is.2) in (
      is.0 ∙ (c.in-Ok.ensures.epoch ∙ ap (cut_place c.args.most) now.1),
      sym (ap (λ p. p.1) c.in-Ok-cut_at_epoch.ensures.cut) ∙ (ap (λ n. (cut_at_by (g.H.AnyHall.state c.bring_in.new.hall) (has_passed (g.H.AnyHall.state c.bring_in.new.hall) n) n).1) c.in-Ok.ensures.epoch ∙ ap (cut_hall_up_to c.args.most) now.1),
      λ i. record (view i) { base = epochs i; base_states = states i; waiting = true },
    )

pub returns-clause-meaning : goal.returns-clause-meaning
returns-clause-meaning g c =
    let now = c.in_ok-bring_in.ensures.collected in
    let q : Keeping g.row.D.Denot = keeping_of c.self.inside.device c.self.inside.plan c.self.inside.head c.self.inside.checkpoint c.self.inside.submitted.items c.self.inside.broken c.self.inside.taken c.self.inside.collected c.self.inside.queue.items c.self.inside.watch in
    let view : q ≡ with_collected c.args.self.now (g.H.AnyHall.state c.args.hall.now) = c.self.view_is ∙ now.0 in
    let own : IsOwn q (g.H.AnyHall.state c.bring_in.new.hall) = subst (λ (p : Keeping g.row.D.Denot). IsOwn p (g.H.AnyHall.state c.bring_in.new.hall)) (sym view) (subst (IsOwn (with_collected c.args.self.now (g.H.AnyHall.state c.args.hall.now))) (sym now.1) (own_after c.args.self.now (g.H.AnyHall.state c.args.hall.now) c.requires)) in
    let passed = c.base_has_passed.ensures (g.H.AnyHall.state c.bring_in.new.hall) c.each_is_sound-2.ensures.reached in
    let last = is_last g.L.Law.answers c.run_joins.ensures.states c.run_joins.ensures.outs q c.self.invariant.1 (g.H.AnyHall.state c.bring_in.new.hall) own c.each_is_sound-2.ensures.sound passed in
    let after = place_after g.L.Law.answers c.run_joins.ensures.states c.run_joins.ensures.outs q c.self.invariant.1 (g.H.AnyHall.state c.bring_in.new.hall) own c.each_is_sound-2.ensures.sound c.args.most passed in
    let before = place_before g.L.Law.answers c.run_joins.ensures.states c.run_joins.ensures.outs q c.self.invariant.1 (g.H.AnyHall.state c.bring_in.new.hall) own c.each_is_sound-2.ensures.sound c.args.most passed in
    let there : has_passed (g.H.AnyHall.state c.bring_in.new.hall) c.in-Ok.last ≡ true = ap (has_passed (g.H.AnyHall.state c.bring_in.new.hall)) c.in-Ok.ensures.epoch
    ∙ place_has_passed g.L.Law.answers c.run_joins.ensures.states c.run_joins.ensures.outs q c.self.invariant.1 (g.H.AnyHall.state c.bring_in.new.hall) own c.each_is_sound-2.ensures.sound c.args.most passed in
    let is = cut_is (g.H.AnyHall.state c.bring_in.new.hall) (g.H.AnyHall.state c.cut_at_epoch.new.self) c.in-Ok.last c.in-Ok-cut_at_epoch.field-0.epoch c.in-Ok-cut_at_epoch.field-0.states (has_passed (g.H.AnyHall.state c.bring_in.new.hall) c.in-Ok.last) there c.in-Ok-cut_at_epoch.ensures.cut in
    cut_meaning g.L.Law.answers c.run_joins.ensures.states c.run_joins.ensures.outs q c.self.invariant.1 (g.H.AnyHall.state c.bring_in.new.hall) own c.each_is_sound-2.ensures.sound c.in-Ok-cut_at_epoch.field-0.epoch
    (omega (arith, is.0, c.in-Ok.ensures.epoch, after)) (omega (arith, is.0, c.in-Ok.ensures.epoch, last.before, before)) c.in-Ok-cut_at_epoch.field-0.states c.in-Ok-cut_at_epoch.ensures.meaning
    ∙ ap (λ (p : Keeping g.row.D.Denot). states_after g.L.Law.answers (tree_of p.plan) p.standing.states (batches_of p.standing.submitted) (c.in-Ok-cut_at_epoch.field-0.epoch - p.standing.epoch)) view

pub returns-in_err-bring_in-clause-stays : goal.returns-in_err-bring_in-clause-stays
returns-in_err-bring_in-clause-stays g c =
    let k = c.args.self.now in
    let S = g.H.AnyHall.state c.args.hall.now in
    let same = c.in_err-bring_in.ensures.unchanged in
    stays_at k c.bring_in.new.self S S (g.H.AnyHall.state c.bring_in.new.hall) same.0 same.1 (stays_itself k S c.requires)

pub returns-in-Err-clause-stays : goal.returns-in-Err-clause-stays
returns-in-Err-clause-stays g c =
    let k = c.args.self.now in
    let S = g.H.AnyHall.state c.args.hall.now in
    let now = c.in_ok-bring_in.ensures.collected in
    stays_at (with_collected k S) c.bring_in.new.self S (collected_hall S) (g.H.AnyHall.state c.bring_in.new.hall) now.0 now.1 (stays_collected k S c.requires)

pub returns-in_default-clause-stays : goal.returns-in_default-clause-stays
returns-in_default-clause-stays g c =
    let k = c.args.self.now in
    let S = g.H.AnyHall.state c.args.hall.now in
    let now = c.in_ok-bring_in.ensures.collected in
    let same : g.H.AnyHall.state c.cut_at_epoch.new.self ≡ g.H.AnyHall.state c.bring_in.new.hall = search rules in
    stays_at (with_collected k S) c.bring_in.new.self S (collected_hall S) (g.H.AnyHall.state c.cut_at_epoch.new.self) now.0 (same ∙ now.1) (stays_collected k S c.requires)

pub returns-clause-stays : goal.returns-clause-stays
returns-clause-stays g c =
    let k = c.args.self.now in
    let S = g.H.AnyHall.state c.args.hall.now in
    let l = c.bring_in.new.self in
    let T = g.H.AnyHall.state c.bring_in.new.hall in
    let now = c.in_ok-bring_in.ensures.collected in
    let cut = returns-clause-cut g c in
    let keeping = subst (λ (q : Keeping g.row.D.Denot). IsKeeping q g.L.Law.answers) c.self.view_is c.self.invariant.1 in
    let first : StaysOwn l S T = stays_at (with_collected k S) l S (collected_hall S) T now.0 now.1 (stays_collected k S c.requires) in
    let sound = c.each_is_sound-2.ensures.sound in
    let passed = c.base_has_passed.ensures T c.each_is_sound-2.ensures.reached in
    let joins = c.run_joins.ensures in
    let last = is_last g.L.Law.answers joins.states joins.outs l keeping T first.own sound passed in
    let after = place_after g.L.Law.answers joins.states joins.outs l keeping T first.own sound c.args.most passed in
    let before = place_before g.L.Law.answers joins.states joins.outs l keeping T first.own sound c.args.most passed in
    let second = stays_cut l T first.own g.L.Law.answers c.args.most keeping sound after (omega (arith, last.before, before)) (place_has_passed g.L.Law.answers joins.states joins.outs l keeping T first.own sound c.args.most passed) in
    let hall = cut.1 ∙ ap (cut_hall_up_to c.args.most) (sym now.1) in
    let back = sym now.0 in
    stays_at (with_cut l (cut_hall_up_to c.args.most T)) _ S (cut_hall_up_to c.args.most T) _ (cut.2 ∙ (λ i. with_cut (back i) (hall i))) hall (stays_then l (with_cut l (cut_hall_up_to c.args.most T)) S T (cut_hall_up_to c.args.most T) first second)
