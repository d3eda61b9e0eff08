use Rattle.std.proofs.Common.{ap}
use Rattle.std.proofs.lemmas.Result.{on_ok_weaker}
use Rattle.td_keeper.specs.Keeping.{Keeping}
use Rattle.td_feed.proofs.Stepping.{quiet_step, steps_handed, steps_then, cut_to_the_end}
use Rattle.td_feed.proofs.under_way.Feeding.cut.Goals as goal

pub returns-in_err-settle-clause-steps : goal.returns-in_err-settle-clause-steps
returns-in_err-settle-clause-steps g c = steps_handed c.from_residual.result c.from_residual.ensures.1 (c.in_err-settle.ensures.steps c.args.seen)

pub returns-in_err-take_cut-clause-steps : goal.returns-in_err-take_cut-clause-steps
returns-in_err-take_cut-clause-steps g c =
    steps_then (c.in_ok-settle.ensures.steps c.args.seen)
    (steps_handed c.from_residual-in_err-take_cut.result c.from_residual-in_err-take_cut.ensures.1 (quiet_step (g.W.Sink.contents c.settle.new.self.writer) c.in_err-take_cut.ensures.quiet c.take_cut.ensures.held))

pub returns-clause-steps : goal.returns-clause-steps
returns-clause-steps g c =
    steps_then (c.in_ok-settle.ensures.steps c.args.seen)
    (steps_then (quiet_step (g.W.Sink.contents c.settle.new.self.writer) c.in_ok-take_cut.ensures.quiet c.take_cut.ensures.held) (c.write_cut.ensures.steps c.args.seen))

pub returns-clause-written : goal.returns-clause-written
returns-clause-written g c = on_ok_weaker c.write_cut.result (λ is. ap (λ (k : Keeping g.row.D.Denot). k.waiting) is.new_is) c.write_cut.ensures.written

pub returns-clause-cut : goal.returns-clause-cut
returns-clause-cut g c = λ alone.
    let settled = g.E.Obey.keeping c.settle.new.self.engine in
    let old = g.E.Obey.keeping c.take_cut.new.engine in
    let new = g.E.Obey.keeping c.write_cut.new.self.engine in
    on_ok_weaker c.write_cut.result
    (λ written. cut_to_the_end c.args.seen settled.base old new (c.in_ok-take_cut.ensures.place alone (c.in_ok-settle.ensures.settled alone).done) written) c.write_cut.ensures.written
