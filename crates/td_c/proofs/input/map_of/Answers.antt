use Rattle.std.proofs.Common.{◌≡◌, ◌∙◌, true, [], get_or, ap, sym, FitsSigned, w64, rules}
use Rattle.std.specs.Prelude.{Some, is_some, option_map, pos}
use Rattle.std.specs.BTreeMap.{insert_entry}
use Rattle.std.proofs.lemmas.Int.{to_z-of_z}
use Rattle.std.proofs.lemmas.List.Sums.{fold_more}
use Rattle.std.proofs.lemmas.Option.{slice_get-get_or}
use Rattle.td_stamp.specs.Orders.{state_key_cmp}
use Rattle.td_stamp.specs.States.{state_of}
use Rattle.td_c.specs.declared.values.TdState.{TdState}
use Rattle.td_c.specs.Rows.{with_row, is_doubled}
use Rattle.td_c.proofs.input.map_of.Goals as goal

abbrev default : TdState
default = record { vertex = 0; key = 0; a = pos 0; b = pos 0 }

pub returns-then-is_some-clause-err : goal.returns-then-is_some-clause-err
returns-then-is_some-clause-err c =
    let rows = c.args.rows.now in
    let index = c.loop-index.index in
    let row : TdState = get_or rows index default in
    let found : is_doubled rows index row ≡ true =
    (λ i. is_some (state_of ((sym c.loop-index.invariant) i) ((sym c.in-Some.ensures.same) i) row.key)) ∙ ap is_some (sym c.in_ok-earlier.ensures.old) ∙ sym c.is_some.ensures ∙ c.if-is_some.true in
    ap (option_map (is_doubled rows index)) (slice_get-get_or rows index default c.loop-index-test.true) ∙ ap Some found

pub loop-index-preserved : goal.loop-index-preserved
loop-index-preserved c =
    let rows = c.args.rows.now in
    let index = c.loop-index.index in
    let row : TdState = get_or rows index default in
    let fits_a : FitsSigned w64 row.a = search rules in
    let fits_b : FitsSigned w64 row.b = search rules in
    c.in_ok-earlier.ensures.entries
    ∙ (λ i. insert_entry state_key_cmp (c.loop-index.invariant i) (c.in-Some.ensures.same i, row.key) (record { a = to_z-of_z w64 row.a fits_a i; b = to_z-of_z w64 row.b fits_b i }))
    ∙ sym (fold_more with_row [] rows index default c.loop-index-test.true)
