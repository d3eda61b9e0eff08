use Rattle.std.proofs.Common.{◌≡◌, ◌==◌, ℕ, List, refl, subst}
use Rattle.td_plan.specs.Lines.{Line}
use Rattle.std.specs.Prelude.{Option, None, Some, IfSome, Result, Ok, Err, OnOk}
use Rattle.td_calls.specs.declared.error.CallsError.{CallsError}
use Rattle.td_calls.specs.Stored.{stored_in}
use Rattle.td_console.specs.declared.faults.Fault.{Fault}
use Rattle.td_console.specs.Answer.{lack_fault}
use Rattle.td_formula.specs.Stored.{stored_beside}
use Rattle.td_written.specs.Durable.{StreamsBy}
use Rattle.td_written.proofs.durable.stream_by.Goals as goal

-- after Ok there was no closure that lacks
fits_after : (P : CallsError → Type 0) (lack : Option CallsError) (r : Result (Unit {0}) Fault) → IfSome lack P → ((l : CallsError) → P l → r ≡ Err (lack_fault l)) → OnOk r (lack ≡ None)
fits_after P None (Ok d) is first = refl
fits_after P None (Err f) is first = tt
fits_after P (Some l) (Ok d) is first = absurd (let no = first l is in cc)
fits_after P (Some l) (Err f) is first = tt

-- by a session of this plan, of so many workers and of these closures
pub returns : goal.returns
returns g c =
    let fed = c.stream.ensures in
    subst (λ (n : ℕ). StreamsBy (stored_beside (stored_in g.L.Law.answers (g.C.Closures.stored c.args.below)) g.F.Formulas.closures)
    g.D.Disk.view g.I.Source.remaining g.W.Sink.contents g.W.Sink.HasRoom g.W.Voice.marks g.H.New.Disk.view
    g.H.Host.copies g.H.Host.seen c.args.plan.now c.args.options (n == 1)
    c.args.disk c.stream.result.disk c.args.reader c.args.writer c.stream.result.writer c.args.host c.stream.result.host c.args.watch c.stream.result.watch c.stream.result.ended) c.new.ensures.workers
    (subst (λ (plan : List Line). StreamsBy (stored_beside (stored_in g.L.Law.answers (g.C.Closures.stored c.args.below)) g.F.Formulas.closures)
    g.D.Disk.view g.I.Source.remaining g.W.Sink.contents g.W.Sink.HasRoom g.W.Voice.marks g.H.New.Disk.view
    g.H.Host.copies g.H.Host.seen plan c.args.options (c.new.result.workers == 1)
    c.args.disk c.stream.result.disk c.args.reader c.args.writer c.stream.result.writer c.args.host c.stream.result.host c.args.watch c.stream.result.watch c.stream.result.ended) c.new.ensures.plan
    (subst (λ (calls : _). StreamsBy (stored_beside (stored_in g.L.Law.answers (g.C.Closures.stored calls.below)) g.F.Formulas.closures)
    g.D.Disk.view g.I.Source.remaining g.W.Sink.contents g.W.Sink.HasRoom g.W.Voice.marks g.H.New.Disk.view
    g.H.Host.copies g.H.Host.seen c.new.result.plan.now c.args.options (c.new.result.workers == 1)
    c.args.disk c.stream.result.disk c.args.reader c.args.writer c.stream.result.writer c.args.host c.stream.result.host c.args.watch c.stream.result.watch c.stream.result.ended) c.new.ensures.calls
    (record { disk_is_kept = fed.disk; lack = fed.lack; fits = fits_after _ _ _ fed.lack (λ l is. is.0); fault = fed.fault; fed = fed.fed; told_around = fed.told })))
