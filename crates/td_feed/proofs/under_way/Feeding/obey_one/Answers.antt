use Rattle.std.proofs.Common.{rules, ◌≡◌, ◌∙◌, ℕ, [], ◌∷◌, refl, ap, subst}
use Rattle.std.specs.Prelude.{None, length}
use Rattle.td_keeper.specs.Keeping.{Keeping}
use Rattle.td_orders.specs.declared.order.Order.TheVariants as order
use Rattle.td_orders.specs.Noted.{note_line}
use Rattle.td_orders.specs.Noted.Aside.{to_say, to_answer, to_copy}
use Rattle.td_orders.specs.declared.source.Asked.TheVariants.{One}
use Rattle.td_feed.specs.Session.{FeedsCopying}
use Rattle.td_feed.proofs.Causes.{of_noted}
use Rattle.td_feed.proofs.Held.{by, base_itself, keeps_same}
use Rattle.td_feed.proofs.Lines.{no_device_if, no_device_said}
use Rattle.td_feed.proofs.Sessions.{disk_same, fed_note, fed_uncopied}
use Rattle.td_feed.proofs.Stepping.{does_as, does_step, steps_nothing}
use Rattle.td_feed.proofs.under_way.Feeding.obey_one.Goals as goal

pub returns-in-Submit-clause-does : goal.returns-in-Submit-clause-does
returns-in-Submit-clause-does g c = does_as c.in-Submit.is (does_step (One (order.Submit c.in-Submit.batch)) refl refl (c.submit.ensures c.args.seen))

pub returns-in-SubmitAs-clause-does : goal.returns-in-SubmitAs-clause-does
returns-in-SubmitAs-clause-does g c = does_as c.in-SubmitAs.is (does_step (One (order.SubmitAs c.in-SubmitAs.request c.in-SubmitAs.batch)) refl refl (c.submit_as.ensures c.args.seen))

pub returns-in-SubmitAt-clause-does : goal.returns-in-SubmitAt-clause-does
returns-in-SubmitAt-clause-does g c =
    does_as c.in-SubmitAt.is (does_step (One (order.SubmitAt c.in-SubmitAt.field-0 c.in-SubmitAt.request c.in-SubmitAt.batch)) refl refl (c.submit_as-in-SubmitAt.ensures c.args.seen))

pub returns-in-SubmitAt-default-eq0-default-clause-does : goal.returns-in-SubmitAt-default-eq0-default-clause-does
returns-in-SubmitAt-default-eq0-default-clause-does g c =
    let place = c.in-SubmitAt-default-eq0-default.field-0 in
    let batch = c.in-SubmitAt-default-eq0-default.batch in
    let none : c.in-SubmitAt-default-eq0-default.field-1 ≡ 0 = search rules in
    does_as (c.in-SubmitAt-default-eq0-default.is ∙ ap (λ (request : ℕ). order.SubmitAt place request batch) none)
    (does_step (One (order.SubmitAt place 0 batch)) refl refl (c.submit-in-SubmitAt-default-eq0-default.ensures c.args.seen))

pub returns-in-Cut-clause-does : goal.returns-in-Cut-clause-does
returns-in-Cut-clause-does g c = does_as c.in-Cut.is (does_step (One order.Cut) refl refl c.cut.ensures.steps)

pub returns-in-Seen-clause-does : goal.returns-in-Seen-clause-does
returns-in-Seen-clause-does g c = does_as c.in-Seen.is (does_step (One (order.Seen c.in-Seen.line c.in-Seen.epoch)) refl refl (steps_nothing (g.W.Sink.contents c.args.self.now.writer) c.requires.whole))

pub returns-in-Say-clause-does : goal.returns-in-Say-clause-does
returns-in-Say-clause-does g c =
    let note = c.write_note.ensures in
    does_as c.in-Say.is (record {
      disk = disk_same c.write_note.result refl (no_device_if c.write_note.result (c.write_note.new.writer ≡ c.args.self.now.writer) note.unsaid);
      fed = fed_uncopied (to_say c.in-Say.note ∷ []) refl refl (fed_note c.write_note.result c.in-Say.note c.requires.whole note.said note.unsaid (λ same. ap g.W.Sink.contents same));
      held = keeps_same c.args.seen (base_itself (g.E.Obey.keeping c.args.self.now.engine));
      fault = of_noted g.W.Sink.HasRoom c.args.self.now.writer (length (note_line c.in-Say.note)) _ c.write_note.result note.unsaid note.room;
    })

pub returns-in-Answer-clause-does : goal.returns-in-Answer-clause-does
returns-in-Answer-clause-does g c =
    let answer = c.answer.ensures in
    does_as c.in-Answer.is (record {
      disk = disk_same c.answer.result (ap (λ (e : g.row.E.Denot). (g.E.Obey.keeping e).device) answer.engine) answer.no_device;
      fed = fed_uncopied (to_answer c.in-Answer.vertex c.in-Answer.wanted ∷ []) refl refl answer.steps;
      held = keeps_same c.args.seen (by (ap g.E.Obey.keeping answer.engine) (base_itself (g.E.Obey.keeping c.args.self.now.engine)));
      fault = answer.fault;
    })

pub returns-in-Copy-clause-does : goal.returns-in-Copy-clause-does
returns-in-Copy-clause-does g c =
    let k = g.E.Obey.keeping c.args.self.now.engine in
    let copy = c.copy_aloud.ensures in
    let u = g.W.Sink.contents c.args.self.now.writer in
    let w = g.W.Sink.contents c.copy_aloud.new.writer in
    does_as c.in-Copy.is (record {
      disk = disk_same c.copy_aloud.result refl (no_device_said c.copy_aloud.result copy.refusals);
      fed = subst (λ (l : Keeping g.row.D.Denot). FeedsCopying g.D.Disk.view g.L.Law.answers g.W.Voice.marks g.H.New.Disk.view c.copy_aloud.result u w (g.H.Host.copies c.args.host.now) (g.H.Host.copies c.copy_aloud.new.host) l l [] (to_copy c.in-Copy.copy.name c.in-Copy.copy.shape None ∷ [])) c.keeper-keeper.ensures
          (copy.fed g.W.Voice.marks);
      held = keeps_same c.args.seen (base_itself k);
      fault = copy.fault;
    })
