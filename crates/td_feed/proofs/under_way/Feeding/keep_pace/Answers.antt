use Rattle.std.proofs.Common.{ℕ, List, [], sym, ap, subst}
use Rattle.std.specs.Prelude.{Option, Ok, OnOk}
use Rattle.td_feed.specs.declared.under_way.Pace.{Pace}
use Rattle.td_feed.specs.Stepping.{IsInTime, KeepsPace, Steps}
use Rattle.td_feed.proofs.Carrying.{at_ok}
use Rattle.td_feed.proofs.Held.{keeps_same}
use Rattle.td_feed.proofs.Stepping.{quiet_step, steps_handed, steps_then, in_time_still}
use Rattle.td_feed.proofs.under_way.Feeding.keep_pace.Goals as goal

pub returns-in-AtEnd-clause-steps : goal.returns-in-AtEnd-clause-steps
returns-in-AtEnd-clause-steps g c = quiet_step (g.W.Sink.contents c.args.self.now.writer) c.release.ensures.quiet (keeps_same c.args.seen c.release.ensures.stays.base)

pub returns-in-AtEnd-clause-in_time : goal.returns-in-AtEnd-clause-in_time
returns-in-AtEnd-clause-in_time g c = λ alone.
    subst (λ (p : Pace). OnOk c.release.result (KeepsPace p c.args.seen (g.E.Obey.keeping c.release.new.engine))) (sym c.in-AtEnd.is) (at_ok c.release.result tt)

pub returns-in_err-cut_or_settle-in-Live-clause-steps : goal.returns-in_err-cut_or_settle-in-Live-clause-steps
returns-in_err-cut_or_settle-in-Live-clause-steps g c = steps_handed c.from_residual.result c.from_residual.ensures.1 c.in_err-cut_or_settle-in-Live.ensures.steps

pub returns-in_err-close_freed-in-Live-clause-steps : goal.returns-in_err-close_freed-in-Live-clause-steps
returns-in_err-close_freed-in-Live-clause-steps g c =
    let u = g.W.Sink.contents c.cut_or_settle.new.self.writer in
    let old = g.E.Obey.keeping c.cut_or_settle.new.self.engine in
    let new = g.E.Obey.keeping c.close_freed.new.self.engine in
    let r = c.from_residual-in_err-close_freed-in-Live.result in
    steps_then c.in_ok-cut_or_settle-in-Live.ensures.steps
    (subst (λ (v : Option (List ℕ)). Steps g.D.Disk.view g.L.Law.answers g.W.Voice.marks g.W.Sink.HasRoom c.args.seen r u v old new []) (sym (ap g.W.Sink.contents c.close_freed.ensures.writer))
    (steps_handed r c.from_residual-in_err-close_freed-in-Live.ensures.1 (quiet_step u c.in_err-close_freed-in-Live.ensures.quiet (keeps_same c.args.seen c.close_freed.ensures.base))))

pub returns-in_ok-close_freed-in-Live-clause-steps : goal.returns-in_ok-close_freed-in-Live-clause-steps
returns-in_ok-close_freed-in-Live-clause-steps g c =
    let u = g.W.Sink.contents c.cut_or_settle.new.self.writer in
    let v = g.W.Sink.contents c.close_freed.new.self.writer in
    let old = g.E.Obey.keeping c.cut_or_settle.new.self.engine in
    let new = g.E.Obey.keeping c.close_freed.new.self.engine in
    let w = g.W.Sink.contents c.tell_full.new.self.writer in
    let told : Steps g.D.Disk.view g.L.Law.answers g.W.Voice.marks g.W.Sink.HasRoom c.args.seen c.tell_full.result v w new (g.E.Obey.keeping c.tell_full.new.self.engine) [] =
    subst (λ (e : g.row.E.Denot). Steps g.D.Disk.view g.L.Law.answers g.W.Voice.marks g.W.Sink.HasRoom c.args.seen c.tell_full.result v w new (g.E.Obey.keeping e) []) (sym c.tell_full.ensures.engine) c.tell_full.ensures.steps in
    let closed : Steps g.D.Disk.view g.L.Law.answers g.W.Voice.marks g.W.Sink.HasRoom c.args.seen (Ok tt) u v old new [] =
    subst (λ (x : Option (List ℕ)). Steps g.D.Disk.view g.L.Law.answers g.W.Voice.marks g.W.Sink.HasRoom c.args.seen (Ok tt) u x old new []) (sym (ap g.W.Sink.contents c.close_freed.ensures.writer))
    (quiet_step u c.in_ok-close_freed-in-Live.ensures.quiet (keeps_same c.args.seen c.close_freed.ensures.base)) in
    steps_then c.in_ok-cut_or_settle-in-Live.ensures.steps (steps_then closed told)

pub returns-in_ok-close_freed-in-Live-clause-in_time : goal.returns-in_ok-close_freed-in-Live-clause-in_time
returns-in_ok-close_freed-in-Live-clause-in_time g c = λ alone.
    let old = g.E.Obey.keeping c.cut_or_settle.new.self.engine in
    let new = g.E.Obey.keeping c.close_freed.new.self.engine in
    let seen = c.args.seen in
    let there : IsInTime c.in-Live.every seen new = in_time_still c.in-Live.every seen old new c.in_ok-close_freed-in-Live.ensures.stands c.close_freed.ensures.base.head (c.in_ok-cut_or_settle-in-Live.ensures.in_time alone) in
    at_ok c.tell_full.result
    (subst (λ (p : Pace). KeepsPace p seen (g.E.Obey.keeping c.tell_full.new.self.engine)) (sym c.in-Live.is)
    (subst (λ (e : g.row.E.Denot). IsInTime c.in-Live.every seen (g.E.Obey.keeping e)) (sym c.tell_full.ensures.engine) there))

pub tell_full-requires : goal.tell_full-requires
tell_full-requires g c = record { whole = (c.in_ok-close_freed-in-Live.ensures.quiet.fed g.W.Voice.marks (g.W.Sink.contents c.args.self.now.writer)).carried.whole }
