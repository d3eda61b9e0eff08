use Rattle.std.proofs.Common.{◌<◌, length, slice_index_or, ap, ◌∙◌, subst, arith}
use Rattle.std.proofs.lemmas.List.FromFn.{length-map-range_with_len, get_or-map-range_with_len}
use Rattle.td_progress.specs.Ways.{places_of, number_of, row}
use Rattle.td_progress.proofs.ways.Ways.row.Goals as goal

pub offset_bounds-rows-number_of : goal.offset_bounds-rows-number_of
offset_bounds-rows-number_of c = omega (arith, c.number_of.ensures.fits)

pub bounds-rows-number_of : goal.bounds-rows-number_of
bounds-rows-number_of c =
    let plan = c.args.self.now in
    let long = ap length c.rows.ensures ∙ length-map-range_with_len (row plan c.args.side) 0 (places_of plan) in
    let within = subst (λ l. c.number_of.result < places_of l) c.self.view_is c.number_of.ensures.within in
    omega (arith, long, within)

pub returns : goal.returns
returns c =
    let plan = c.args.self.now in
    let n = c.number_of.result in
    let d = c.index-rows-number_of.result in
    let is = c.number_of.ensures.value ∙ ap (λ l. number_of l c.args.place) c.self.view_is in
    let within = subst (λ l. n < places_of l) c.self.view_is c.number_of.ensures.within in
    c.as_slice.ensures
    ∙ (c.index-rows-number_of.is
    ∙ (ap (λ xs. slice_index_or xs n d) c.rows.ensures ∙ (get_or-map-range_with_len (row plan c.args.side) 0 (places_of plan) n n d within (omega arith) ∙ ap (row plan c.args.side) is)))
