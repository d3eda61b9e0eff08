use Rattle.std.proofs.Common.{◌≡◌, ◌==◌, inl, inr, ℕ, Bool, true, List, [], ◌∷◌, ◌++◌, length, refl, sym, ap, ◌∙◌, subst, arith, eqb-true}
use Rattle.std.specs.Prelude.{Option, Some, string_bytes, string_len, OnOk}
use Rattle.std.specs.Io.KnownBytes.{Appends}
use Rattle.std.proofs.lemmas.List.{append-nil}
use Rattle.td_stamp.specs.declared.epoch_out.EpochOut.{EpochOut}
use Rattle.td_keeper.specs.declared.command.Reply.TheVariants.{Out}
use Rattle.td_console.specs.declared.faults.Fault.{Fault}
use Rattle.td_console.specs.declared.faults.Fault.TheVariants.{Memory}
use Rattle.td_feed.specs.Said.{line_of, out_lines}
use Rattle.td_feed.proofs.Carrying.{unmoved, carries_after}
use Rattle.td_feed.proofs.Counting.{other_fault}
use Rattle.td_feed.proofs.Replies.{for_memory}
use Rattle.td_feed.proofs.Lines.{by_refusal, some_for, unheard, output_no_device, holding_nothing, holding_more, holding_piece, none_out, all_written, last_written}
use Rattle.td_feed.proofs.Sessions.{ok_no_device, disk_same, fed_quiet}
use Rattle.td_feed.proofs.Held.{base_itself, base_then}
use Rattle.td_feed.proofs.Stepping.{stays_then}
use Rattle.td_feed.proofs.under_way.Feeding.write_outs.Goals as goal

-- a list without members
nil_of : (l : List ℕ) (n : ℕ) → (n == 0) ≡ true → n ≡ length l → l ≡ []
nil_of [] n is many = refl
nil_of (x ∷ l) n is many = absurd (let none : n ≡ 0 = eqb-true n 0 is in omega (arith, none, many))

pub loop-out-init : goal.loop-out-init
loop-out-init g c = record {
  said = holding_nothing g.D.Disk.view g.L.Law.answers g.W.Voice.marks (g.W.Sink.contents c.args.self.now.writer) (g.E.Obey.keeping c.args.self.now.engine) (string_bytes c.new-text.result) c.new-text.ensures.bytes;
  carried = unmoved g.L.Law.answers (g.E.Obey.keeping c.args.self.now.engine) (g.E.Obey.keeping c.args.self.now.engine) refl refl c.requires.whole;
  device = refl;
  stands = refl;
  collected = refl;
  base = base_itself (g.E.Obey.keeping c.args.self.now.engine);
  own = λ alone. refl;
}

pub loop-out-preserved : goal.loop-out-preserved
loop-out-preserved g c =
    let view = g.D.Disk.view in
    let answers = g.L.Law.answers in
    let marks = g.W.Voice.marks in
    let u = g.W.Sink.contents c.args.self.now.writer in
    let v = g.W.Sink.contents c.loop-out.self.writer in
    let old = (g.E.Obey.keeping c.args.self.now.engine) in
    let there = (g.E.Obey.keeping c.loop-out.self.engine) in
    let new = (g.E.Obey.keeping c.next_out.new.engine) in
    let held = string_bytes c.loop-out.text in
    let so_far = c.loop-out.invariant in
    let o : Option EpochOut = c.next_out.result in
    let more = holding_more view answers marks u v old there new o held (held ++ line_of marks 0 (Out o)) so_far.said c.next_out.ensures.driven refl in
    let printed : string_bytes c.print_out.new.lines ≡ held ++ line_of marks 0 (Out (Some c.in-Some.out)) =
    c.in_ok-print_out.ensures.ok ∙ ap (λ (m : Bool). held ++ out_lines m c.in-Some.out) c.is_marking-marks.ensures in
    let is : held ++ line_of marks 0 (Out o) ≡ string_bytes c.print_out.new.lines = ap (λ (p : Option EpochOut). held ++ line_of marks 0 (Out p)) c.in-Some.is ∙ sym printed in
    record {
      said = holding_piece view answers marks g.W.Sink.contents string_bytes u c.loop-out.self.writer c.write_piece.new.writer old new c.print_out.new.lines c.write_piece.new.text
          (holding_more view answers marks u v old there new o held (string_bytes c.print_out.new.lines) so_far.said c.next_out.ensures.driven (sym is)) c.in_ok-write_piece.ensures.ok;
      carried = carries_after view answers old there new [] so_far.carried c.next_out.ensures.stays.rests;
      device = c.next_out.ensures.device ∙ so_far.device;
      stands = c.next_out.ensures.stays.stands ∙ so_far.stands;
      collected = c.next_out.ensures.collected ∙ so_far.collected;
      base = base_then so_far.base c.next_out.ensures.stays.base;
      own = λ alone. c.next_out.ensures.own alone ∙ so_far.own alone;
    }

pub returns-in_err-print_out-clause-fed : goal.returns-in_err-print_out-clause-fed
returns-in_err-print_out-clause-fed g c =
    let view = g.D.Disk.view in
    let answers = g.L.Law.answers in
    let marks = g.W.Voice.marks in
    let u = g.W.Sink.contents c.args.self.now.writer in
    let v = g.W.Sink.contents c.loop-out.self.writer in
    let old = (g.E.Obey.keeping c.args.self.now.engine) in
    let there = (g.E.Obey.keeping c.loop-out.self.engine) in
    let new = (g.E.Obey.keeping c.next_out.new.engine) in
    let held = string_bytes c.loop-out.text in
    let so_far = c.loop-out.invariant in
    let o : Option EpochOut = c.next_out.result in
    let more = holding_more view answers marks u v old there new o held (held ++ line_of marks 0 (Out o)) so_far.said c.next_out.ensures.driven refl in
    fed_quiet c.from_residual.result (carries_after g.D.Disk.view g.L.Law.answers (g.E.Obey.keeping c.args.self.now.engine) (g.E.Obey.keeping c.loop-out.self.engine) (g.E.Obey.keeping c.next_out.new.engine) [] c.loop-out.invariant.carried c.next_out.ensures.stays.rests)
    (by_refusal view answers marks c.from_residual.result (λ (f : Fault). f ≡ c.in_err-print_out.field-0.0) u v old new [] [] c.from_residual.ensures.1
    (λ f is. inr (some_for view answers marks f Memory u v old new [] (for_memory f (is ∙ c.in_err-print_out.ensures.err)) more.some)))

pub returns-in_err-print_out-clause-disk : goal.returns-in_err-print_out-clause-disk
returns-in_err-print_out-clause-disk g c =
    disk_same c.from_residual.result (c.next_out.ensures.device ∙ c.loop-out.invariant.device)
    (other_fault c.from_residual.result (λ (f : Fault). f ≡ c.in_err-print_out.field-0.0) c.from_residual.ensures.1 (λ is. let memory = c.in_err-print_out.ensures.err in let other = is in cc))

pub returns-in_err-write_piece-clause-fed : goal.returns-in_err-write_piece-clause-fed
returns-in_err-write_piece-clause-fed g c =
    let view = g.D.Disk.view in
    let answers = g.L.Law.answers in
    let marks = g.W.Voice.marks in
    let u = g.W.Sink.contents c.args.self.now.writer in
    let v = g.W.Sink.contents c.loop-out.self.writer in
    let old = (g.E.Obey.keeping c.args.self.now.engine) in
    let there = (g.E.Obey.keeping c.loop-out.self.engine) in
    let new = (g.E.Obey.keeping c.next_out.new.engine) in
    let held = string_bytes c.loop-out.text in
    let so_far = c.loop-out.invariant in
    let o : Option EpochOut = c.next_out.result in
    let more = holding_more view answers marks u v old there new o held (held ++ line_of marks 0 (Out o)) so_far.said c.next_out.ensures.driven refl in
    fed_quiet c.from_residual-in_err-write_piece.result (carries_after g.D.Disk.view g.L.Law.answers (g.E.Obey.keeping c.args.self.now.engine) (g.E.Obey.keeping c.loop-out.self.engine) (g.E.Obey.keeping c.next_out.new.engine) [] c.loop-out.invariant.carried c.next_out.ensures.stays.rests)
    (by_refusal view answers marks c.from_residual-in_err-write_piece.result (λ (f : Fault). f ≡ c.in_err-write_piece.field-0.0) u (g.W.Sink.contents c.write_piece.new.writer) old new [] []
    c.from_residual-in_err-write_piece.ensures.1 (λ f is. inl (is ∙ c.in_err-write_piece.ensures.err, unheard view answers marks u v old new [] more.some)))

pub returns-in_err-write_piece-clause-disk : goal.returns-in_err-write_piece-clause-disk
returns-in_err-write_piece-clause-disk g c =
    disk_same c.from_residual-in_err-write_piece.result (c.next_out.ensures.device ∙ c.loop-out.invariant.device)
    (other_fault c.from_residual-in_err-write_piece.result (λ (f : Fault). f ≡ c.in_err-write_piece.field-0.0) c.from_residual-in_err-write_piece.ensures.1 (λ is. let output = c.in_err-write_piece.ensures.err in let other = is in cc))

pub returns-then-is_empty-clause-fed : goal.returns-then-is_empty-clause-fed
returns-then-is_empty-clause-fed g c =
    let view = g.D.Disk.view in
    let answers = g.L.Law.answers in
    let marks = g.W.Voice.marks in
    let u = g.W.Sink.contents c.args.self.now.writer in
    let v = g.W.Sink.contents c.loop-out.self.writer in
    let old = (g.E.Obey.keeping c.args.self.now.engine) in
    let there = (g.E.Obey.keeping c.loop-out.self.engine) in
    let new = (g.E.Obey.keeping c.next_out.new.engine) in
    let held = string_bytes c.loop-out.text in
    let so_far = c.loop-out.invariant in
    let o : Option EpochOut = c.next_out.result in
    let more = holding_more view answers marks u v old there new o held (held ++ line_of marks 0 (Out o)) so_far.said c.next_out.ensures.driven refl in
    let line = none_out view answers marks o c.in_default.not-Some in
    let empty : held ≡ [] = nil_of held (string_len c.loop-out.text) (sym c.is_empty.ensures ∙ c.if-is_empty.true) c.loop-out.text.bytes.ok.0 in
    record { carried = (carries_after g.D.Disk.view g.L.Law.answers (g.E.Obey.keeping c.args.self.now.engine) (g.E.Obey.keeping c.loop-out.self.engine) (g.E.Obey.keeping c.next_out.new.engine) [] c.loop-out.invariant.carried c.next_out.ensures.stays.rests); left = tt; said = all_written view answers marks u v old new (held ++ line_of marks 0 (Out o)) more (ap (λ (l : List ℕ). l ++ line_of marks 0 (Out o)) empty ∙ line) }

pub returns-then-is_empty-clause-disk : goal.returns-then-is_empty-clause-disk
returns-then-is_empty-clause-disk g c = disk_same _ (c.next_out.ensures.device ∙ c.loop-out.invariant.device) (ok_no_device tt)

pub returns-clause-fed : goal.returns-clause-fed
returns-clause-fed g c =
    let view = g.D.Disk.view in
    let answers = g.L.Law.answers in
    let marks = g.W.Voice.marks in
    let u = g.W.Sink.contents c.args.self.now.writer in
    let v = g.W.Sink.contents c.loop-out.self.writer in
    let old = (g.E.Obey.keeping c.args.self.now.engine) in
    let there = (g.E.Obey.keeping c.loop-out.self.engine) in
    let new = (g.E.Obey.keeping c.next_out.new.engine) in
    let held = string_bytes c.loop-out.text in
    let so_far = c.loop-out.invariant in
    let o : Option EpochOut = c.next_out.result in
    let more = holding_more view answers marks u v old there new o held (held ++ line_of marks 0 (Out o)) so_far.said c.next_out.ensures.driven refl in
    let w = g.W.Sink.contents c.write_answer.new.writer in
    let line = none_out view answers marks o c.in_default.not-Some in
    let is : c.as_str.result.now ≡ held ++ line_of marks 0 (Out o) = c.as_str.ensures.value ∙ sym (append-nil held) ∙ ap (λ (l : List ℕ). held ++ l) (sym line) in
    fed_quiet c.write_answer.result (carries_after g.D.Disk.view g.L.Law.answers (g.E.Obey.keeping c.args.self.now.engine) (g.E.Obey.keeping c.loop-out.self.engine) (g.E.Obey.keeping c.next_out.new.engine) [] c.loop-out.invariant.carried c.next_out.ensures.stays.rests)
    (last_written view answers marks c.write_answer.result u v w old new (held ++ line_of marks 0 (Out o)) more
    (subst (λ (t : List ℕ). OnOk c.write_answer.result (Appends v w t)) is c.write_answer.ensures.written) c.write_answer.ensures.err)

pub returns-clause-disk : goal.returns-clause-disk
returns-clause-disk g c = disk_same c.write_answer.result (c.next_out.ensures.device ∙ c.loop-out.invariant.device) (output_no_device c.write_answer.result c.write_answer.ensures.err)

pub returns-in_err-print_out-clause-stays : goal.returns-in_err-print_out-clause-stays
returns-in_err-print_out-clause-stays g c =
    let so_far = c.loop-out.invariant in
    stays_then (record { rests = so_far.carried; stands = so_far.stands; base = so_far.base }) c.next_out.ensures.stays

pub returns-in_err-print_out-clause-collected : goal.returns-in_err-print_out-clause-collected
returns-in_err-print_out-clause-collected g c = c.next_out.ensures.collected ∙ c.loop-out.invariant.collected

pub returns-in_err-print_out-clause-own : goal.returns-in_err-print_out-clause-own
returns-in_err-print_out-clause-own g c = λ alone. c.next_out.ensures.own alone ∙ c.loop-out.invariant.own alone

pub returns-in_err-write_piece-clause-stays : goal.returns-in_err-write_piece-clause-stays
returns-in_err-write_piece-clause-stays g c =
    let so_far = c.loop-out.invariant in
    stays_then (record { rests = so_far.carried; stands = so_far.stands; base = so_far.base }) c.next_out.ensures.stays

pub returns-in_err-write_piece-clause-collected : goal.returns-in_err-write_piece-clause-collected
returns-in_err-write_piece-clause-collected g c = c.next_out.ensures.collected ∙ c.loop-out.invariant.collected

pub returns-in_err-write_piece-clause-own : goal.returns-in_err-write_piece-clause-own
returns-in_err-write_piece-clause-own g c = λ alone. c.next_out.ensures.own alone ∙ c.loop-out.invariant.own alone

pub returns-then-is_empty-clause-stays : goal.returns-then-is_empty-clause-stays
returns-then-is_empty-clause-stays g c =
    let so_far = c.loop-out.invariant in
    stays_then (record { rests = so_far.carried; stands = so_far.stands; base = so_far.base }) c.next_out.ensures.stays

pub returns-then-is_empty-clause-collected : goal.returns-then-is_empty-clause-collected
returns-then-is_empty-clause-collected g c = c.next_out.ensures.collected ∙ c.loop-out.invariant.collected

pub returns-then-is_empty-clause-own : goal.returns-then-is_empty-clause-own
returns-then-is_empty-clause-own g c = λ alone. c.next_out.ensures.own alone ∙ c.loop-out.invariant.own alone

pub returns-clause-stays : goal.returns-clause-stays
returns-clause-stays g c =
    let so_far = c.loop-out.invariant in
    stays_then (record { rests = so_far.carried; stands = so_far.stands; base = so_far.base }) c.next_out.ensures.stays

pub returns-clause-collected : goal.returns-clause-collected
returns-clause-collected g c = c.next_out.ensures.collected ∙ c.loop-out.invariant.collected

pub returns-clause-own : goal.returns-clause-own
returns-clause-own g c = λ alone. c.next_out.ensures.own alone ∙ c.loop-out.invariant.own alone
