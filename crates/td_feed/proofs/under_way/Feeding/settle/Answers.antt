use Rattle.std.proofs.Common.{sym, ap, ◌∙◌, subst}
use Rattle.std.proofs.lemmas.Result.{on_ok_weaker}
use Rattle.td_keeper.specs.Halls.{IsDone}
use Rattle.td_store.specs.standing.Standing.{last_epoch}
use Rattle.td_feed.proofs.Held.{keeps_same}
use Rattle.td_feed.proofs.Stepping.{since_same, stays_then, quiet_step, steps_handed, steps_then}
use Rattle.td_feed.proofs.under_way.Feeding.settle.Goals as goal

pub returns-in_err-release-clause-steps : goal.returns-in_err-release-clause-steps
returns-in_err-release-clause-steps g c = λ seen.
    steps_handed c.from_residual.result c.from_residual.ensures.1 (quiet_step (g.W.Sink.contents c.args.self.now.writer) c.in_err-release.ensures.quiet (keeps_same seen c.release.ensures.stays.base))

pub returns-in_err-release-clause-stays : goal.returns-in_err-release-clause-stays
returns-in_err-release-clause-stays g c = c.release.ensures.stays

pub returns-in_err-pass-clause-steps : goal.returns-in_err-pass-clause-steps
returns-in_err-pass-clause-steps g c = λ seen.
    let u = g.W.Sink.contents c.args.self.now.writer in
    steps_then (quiet_step u c.in_ok-release.ensures.quiet (keeps_same seen c.release.ensures.stays.base))
    (steps_handed c.from_residual-in_err-pass.result c.from_residual-in_err-pass.ensures.1 (quiet_step u c.in_err-pass.ensures.quiet (keeps_same seen c.pass.ensures.stays.base)))

pub returns-in_err-pass-clause-stays : goal.returns-in_err-pass-clause-stays
returns-in_err-pass-clause-stays g c = stays_then c.release.ensures.stays c.pass.ensures.stays

pub returns-in_err-collect-clause-steps : goal.returns-in_err-collect-clause-steps
returns-in_err-collect-clause-steps g c = λ seen.
    let u = g.W.Sink.contents c.args.self.now.writer in
    steps_then (quiet_step u c.in_ok-release.ensures.quiet (keeps_same seen c.release.ensures.stays.base))
    (steps_then (quiet_step u c.in_ok-pass.ensures.quiet (keeps_same seen c.pass.ensures.stays.base))
    (steps_handed c.from_residual-in_err-collect.result c.from_residual-in_err-collect.ensures.1 (quiet_step u c.in_err-collect.ensures.quiet (keeps_same seen c.collect.ensures.stays.base))))

pub returns-in_err-collect-clause-stays : goal.returns-in_err-collect-clause-stays
returns-in_err-collect-clause-stays g c = stays_then c.release.ensures.stays (stays_then c.pass.ensures.stays c.collect.ensures.stays)

pub returns-clause-steps : goal.returns-clause-steps
returns-clause-steps g c = λ seen.
    let u = g.W.Sink.contents c.args.self.now.writer in
    let out = c.write_outs.ensures in
    steps_then (quiet_step u c.in_ok-release.ensures.quiet (keeps_same seen c.release.ensures.stays.base))
    (steps_then (quiet_step u c.in_ok-pass.ensures.quiet (keeps_same seen c.pass.ensures.stays.base))
    (steps_then (quiet_step u c.in_ok-collect.ensures.quiet (keeps_same seen c.collect.ensures.stays.base))
    (record { disk = out.disk; fed = out.fed; held = keeps_same seen out.stays.base; fault = out.fault })))

pub returns-clause-stays : goal.returns-clause-stays
returns-clause-stays g c = stays_then c.release.ensures.stays (stays_then c.pass.ensures.stays (stays_then c.collect.ensures.stays c.write_outs.ensures.stays))

pub returns-clause-settled : goal.returns-clause-settled
returns-clause-settled g c = λ alone.
    let out = c.write_outs.ensures in
    let collected = g.E.Obey.keeping c.collect.new.engine in
    let new = g.E.Obey.keeping c.write_outs.new.self.engine in
    let done = c.in_ok-pass.ensures.done alone (c.in_ok-release.ensures.own alone) in
    let all = c.in_ok-collect.ensures.all alone done in
    on_ok_weaker c.write_outs.result (λ none. record {
      all_out = record { collected = out.collected ∙ (all.0 ∙ ap last_epoch (sym out.stays.stands)); none_left = none };
      done = subst (IsDone new) (sym (out.own alone))
          (record { all = all.1.all ∙ sym (since_same collected new out.stays.stands out.stays.base.base); passed = all.1.passed });
    }) out.none_left
