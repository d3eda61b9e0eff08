use Rattle.std.proofs.Common.{◌≡◌, ℕ, suc, ◌+◌, ◌<◌, ◌++◌, ◌∙◌, ap, sym, subst, arith, List, [], ◌∷◌, length, get_or, drop, take, drop-cons}
use Rattle.std.specs.Prelude.{flat_map, string_bytes}
use Rattle.std.proofs.lemmas.List.{take_more}
use Rattle.td_gate.specs.Reading.{Each, each_push}
use Rattle.td_journal.specs.declared.payload.Submitted.{Submitted}
use Rattle.td_report.specs.Dumped.{epoch_text, FitsLines}
use Rattle.td_report.proofs.Pieces.{front_next}
use Rattle.td_report.proofs.epoch_lines.write_epochs.Goals as goal

-- one epoch more
dropped : (x : List Submitted) (i : ℕ) (s : Submitted) → s ≡ get_or x i s → i < length x → drop i x ≡ s ∷ drop (i + 1) x
dropped x i s is lt =
    let next : suc i ≡ i + 1 = omega arith in
    drop-cons x i s lt ∙ ap (λ (y : Submitted). y ∷ drop (suc i) x) (sym is) ∙ ap (λ (n : ℕ). s ∷ drop n x) next

taken : (x : List Submitted) (i : ℕ) (s : Submitted) → s ≡ get_or x i s → i < length x → take i x ++ s ∷ [] ≡ take (i + 1) x
taken x i s is lt = ap (λ (y : Submitted). take i x ++ y ∷ []) is ∙ sym (take_more x i s lt)

pub loop-each-preserved : goal.loop-each-preserved
loop-each-preserved g c =
    let so_far = c.loop-each.invariant in
    let x = c.args.submitted.now in
    let i = c.loop-each.each-index in
    let s = c.each-item.result in
    let is = c.each-item.is in
    let lt = c.loop-each-test.true in
    record {
      room = c.write_epoch.ensures.room;
      front = front_next (g.W.Sink.contents c.args.writer.now) (g.W.Sink.contents c.loop-each.writer) (g.W.Sink.contents c.write_epoch.new.writer)
          (string_bytes c.args.lines.now ++ flat_map epoch_text x) (string_bytes c.loop-each.lines) (string_bytes c.write_epoch.new.lines) (epoch_text s)
          (flat_map epoch_text (drop (i + 1) x)) (flat_map epoch_text (drop i x)) so_far.front (ap (flat_map epoch_text) (dropped x i s is lt)) c.in_ok-write_epoch.ensures.left;
      fits = subst (λ (l : List Submitted). Each FitsLines l) (taken x i s is lt) (each_push FitsLines (take i x) s so_far.fits c.in_ok-write_epoch.ensures.fits);
    }
