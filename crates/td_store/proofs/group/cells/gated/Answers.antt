use Rattle.std.proofs.Common.{◌≡◌, ◌+◌, ◌++◌, ◌≤◌, ℕ, suc, [], ◌∷◌, take, length, sym, ap, ◌∙◌, subst, arith}
use Rattle.std.proofs.Math.Seq.{take-suc}
use Rattle.std.proofs.lemmas.List.{length-take-le, append_assoc}
use Rattle.td_journal.specs.declared.payload.Submitted.{Submitted}
use Rattle.td_journal.specs.Cell.{cell_bytes}
use Rattle.td_store.specs.group.Groups.{gated, AllFit}
use Rattle.td_store.proofs.group.Pieces.{gated_more, fit_more, few_at}
use Rattle.td_store.proofs.group.cells.gated.Goals as goal

pub payload-requires-clause-few : goal.payload-requires-clause-few
payload-requires-clause-few c =
    subst (λ (y : Submitted). length y.batch ≤ c.args.journal.now.m) (sym c.submitted-item.is)
    (few_at c.args.journal.now.m c.args.group.now c.loop-submitted.submitted-index c.submitted-item.result c.loop-submitted-test.true c.requires.few)

pub loop-submitted-preserved : goal.loop-submitted-preserved
loop-submitted-preserved c =
    let i = c.loop-submitted.submitted-index in
    let xs = c.args.group.now in
    let x = c.submitted-item.result in
    let m = c.args.journal.now.m in
    let before = c.loop-submitted.invariant in
    let next : i + 1 ≡ suc i = omega arith in
    let more : take (i + 1) xs ≡ take i xs ++ x ∷ [] =
    ap (λ (n : ℕ). take n xs) next ∙ take-suc xs i x c.loop-submitted-test.true ∙ ap (λ (y : Submitted). take i xs ++ y ∷ []) (sym c.submitted-item.is) in
    let long : length (take i xs) ≡ i = length-take-le i xs (omega (arith, c.loop-submitted-test.true)) in
    let here : c.loop-submitted.epoch ≡ c.args.first + length (take i xs) = before.0 ∙ ap (λ n. c.args.first + n) (sym long) in
    let payload = c.deref.ensures.value ∙ c.in_ok-payload.ensures.ok in (
      omega (arith, before.0),
      c.in_ok-push.ensures.items ∙ ap (λ l. l ++ 165 ∷ []) c.in_ok-extend_from_slice.ensures.items
          ∙ append_assoc c.loop-submitted.bytes.items c.deref.result.now (165 ∷ [])
          ∙ ap (λ l. c.loop-submitted.bytes.items ++ (l ++ 165 ∷ [])) payload
          ∙ ap (λ l. l ++ (cell_bytes m c.loop-submitted.epoch x.request x.batch ++ 165 ∷ [])) before.1
          ∙ ap (λ e. gated m c.args.first (take i xs) ++ (cell_bytes m e x.request x.batch ++ 165 ∷ [])) here
          ∙ sym (gated_more m c.args.first (take i xs) x) ∙ ap (gated m c.args.first) (sym more),
      subst AllFit (sym more) (fit_more (take i xs) x before.2 (c.in_ok-payload.ensures.fits, omega arith)),
    )
