use Rattle.std.proofs.Common.{◌≡◌, ◌++◌, ◌∷◌, [], true, false, cond, filter, sym, ap, ◌∙◌}
use Rattle.std.specs.List.{range_with_len}
use Rattle.td_progress.specs.Ways.{is_on}
use Rattle.td_progress.proofs.Rows.{append-nil, row_more}
use Rattle.td_progress.proofs.ways.row.Goals as goal
use Rattle.td_progress.proofs.ways.row.Goals.{then-is_on+in_ok-push, else-is_on}

pub loop-other-preserved : goal.loop-other-preserved
loop-other-preserved c =
    let i = c.loop-other.other in
    let t = is_on c.args.reach.now c.args.side c.args.at in
    elim c.if-is_on.branch [
      | then-is_on+in_ok-push w ↦
          let yes : t i ≡ true = sym c.is_on.ensures ∙ w.if-is_on.true in
          ap (λ v. v.items) w.numbers-is ∙ (w.in_ok-push.ensures.items ∙ (ap (λ xs. xs ++ i ∷ []) c.loop-other.invariant ∙ (ap (λ b. filter t (range_with_len 0 i) ++ cond b (i ∷ []) []) (sym yes) ∙ sym (row_more t i))))
      | else-is_on w ↦
          let no : t i ≡ false = sym c.is_on.ensures ∙ w.if-is_on.false in
          ap (λ v. v.items) w.numbers-is ∙ (c.loop-other.invariant ∙ (sym (append-nil (filter t (range_with_len 0 i))) ∙ (ap (λ b. filter t (range_with_len 0 i) ++ cond b (i ∷ []) []) (sym no) ∙ sym (row_more t i))))
    ]
