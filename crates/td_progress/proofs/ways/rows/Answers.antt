use Rattle.std.proofs.Common.{◌++◌, ◌∷◌, [], sym, ◌∙◌, arith}
use Rattle.std.proofs.lemmas.List.FromFn.{map-range_with_len_more}
use Rattle.td_progress.specs.Ways.{row}
use Rattle.td_progress.proofs.ways.rows.Goals as goal

pub loop-at-preserved : goal.loop-at-preserved
loop-at-preserved c =
    let i = c.loop-at.at in
    c.in_ok-push.ensures.items
    ∙ ((λ k. c.loop-at.invariant k ++ c.in_ok-row.ensures k ∷ []) ∙ sym (map-range_with_len_more (row c.args.reach.now c.args.side) 0 i i (omega arith)))
