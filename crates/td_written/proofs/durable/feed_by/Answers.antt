use Rattle.std.proofs.Common.{List, subst}
use Rattle.td_plan.specs.Lines.{Line}
use Rattle.td_calls.specs.Stored.{stored_in}
use Rattle.td_formula.specs.Stored.{stored_beside}
use Rattle.td_written.specs.Durable.{FeedsBy}
use Rattle.td_written.proofs.durable.feed_by.Goals as goal

-- by a session of this plan and of these closures
pub returns : goal.returns
returns g c =
    let fed = c.feed.ensures in
    subst (λ (plan : List Line). FeedsBy (stored_beside (stored_in g.L.Law.answers (g.C.Closures.stored c.args.below)) g.F.Formulas.closures)
    g.D.Disk.view g.I.Source.remaining g.W.Sink.contents g.W.Sink.HasRoom g.W.Voice.marks plan
    c.args.disk c.feed.result.disk c.args.reader.now c.feed.new.reader c.args.writer c.feed.result.writer c.feed.result.ended) c.new.ensures.plan
    (subst (λ (calls : _). FeedsBy (stored_beside (stored_in g.L.Law.answers (g.C.Closures.stored calls.below)) g.F.Formulas.closures)
    g.D.Disk.view g.I.Source.remaining g.W.Sink.contents g.W.Sink.HasRoom g.W.Voice.marks c.new.result.plan.now
    c.args.disk c.feed.result.disk c.args.reader.now c.feed.new.reader c.args.writer c.feed.result.writer c.feed.result.ended) c.new.ensures.calls
    (record { disk_is_kept = fed.disk; lack = fed.lack; fits = fed.fits; fault = fed.fault; fed = fed.fed }))
