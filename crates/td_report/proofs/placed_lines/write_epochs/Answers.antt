use Rattle.std.proofs.Common.{◌≡◌, ℕ, suc, ◌+◌, ◌<◌, ◌++◌, ◌∙◌, ap, sym, subst, arith, List, [], ◌∷◌, length, get_or, drop, take, drop-cons}
use Rattle.std.specs.Prelude.{string_bytes}
use Rattle.std.proofs.lemmas.List.{take_more}
use Rattle.td_gate.specs.Reading.{Each, each_push}
use Rattle.td_journal.specs.declared.payload.Submitted.{Submitted}
use Rattle.td_report.specs.Dumped.{place_line, epoch_text, placed_text, FitsLines}
use Rattle.td_report.proofs.Pieces.{front_next}
use Rattle.td_report.proofs.placed_lines.write_epochs.Goals as goal

-- one epoch more
dropped : (x : List Submitted) (i : ℕ) (s : Submitted) → s ≡ get_or x i s → i < length x → drop i x ≡ s ∷ drop (i + 1) x
dropped x i s is lt =
    let next : suc i ≡ i + 1 = omega arith in
    drop-cons x i s lt ∙ ap (λ (y : Submitted). y ∷ drop (suc i) x) (sym is) ∙ ap (λ (n : ℕ). s ∷ drop n x) next

taken : (x : List Submitted) (i : ℕ) (s : Submitted) → s ≡ get_or x i s → i < length x → take i x ++ s ∷ [] ≡ take (i + 1) x
taken x i s is lt = ap (λ (y : Submitted). take i x ++ y ∷ []) is ∙ sym (take_more x i s lt)

-- its text
next_text : (e f : ℕ) (s : Submitted) (x : List Submitted) → f ≡ suc e → placed_text e (s ∷ x) ≡ (place_line f ++ epoch_text s) ++ placed_text f x
next_text e f s x is = ap (λ (n : ℕ). (place_line n ++ epoch_text s) ++ placed_text n x) (sym is)

pub loop-each-preserved : goal.loop-each-preserved
loop-each-preserved g c =
    let so_far = c.loop-each.invariant in
    let x = c.args.submitted.now in
    let i = c.loop-each.each-index in
    let e = c.loop-each.epoch in
    let s = c.each-item.result in
    let is = c.each-item.is in
    let lt = c.loop-each-test.true in
    let f = e + 1 in
    record {
      room = c.write_placed.ensures.room;
      epoch = omega (arith, so_far.epoch);
      front = front_next (g.W.Sink.contents c.args.writer.now) (g.W.Sink.contents c.loop-each.writer) (g.W.Sink.contents c.write_placed.new.writer)
          (string_bytes c.args.lines.now ++ placed_text c.args.kept x) (string_bytes c.loop-each.lines) (string_bytes c.write_placed.new.lines) (place_line f ++ epoch_text s)
          (placed_text f (drop (i + 1) x)) (placed_text e (drop i x)) so_far.front (ap (placed_text e) (dropped x i s is lt) ∙ next_text e f s (drop (i + 1) x) (omega arith)) c.in_ok-write_placed.ensures.left;
      fits = subst (λ (l : List Submitted). Each FitsLines l) (taken x i s is lt) (each_push FitsLines (take i x) s so_far.fits c.in_ok-write_placed.ensures.fits);
    }
