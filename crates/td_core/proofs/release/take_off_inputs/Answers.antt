use Rattle.std.proofs.Common.{◌<◌, ◌++◌, [], ◌∷◌, map, refl, ap, sym, ◌∙◌, subst, slice_index_or, arith}
use Rattle.std.proofs.lemmas.List.{take_all}
use Rattle.td_reach.specs.declared.stamp.Place.TheVariants as places
use Rattle.td_progress.specs.Bag.{occurrences, input_stamp}
use Rattle.td_core.proofs.CloseSteps.{is_there, next_off}
use Rattle.td_core.proofs.release.take_off_inputs.Goals as goal

pub take_off-requires : goal.take_off-requires
take_off-requires c =
    let i = c.loop-input.input-index in
    let x = slice_index_or c.args.inputs.now i 0 in
    subst (λ t. 0 < occurrences (record { time = t; place = places.Vertex x }) c.loop-input.table.stamps) (sym c.new.ensures)
    (is_there c.counted.ensures.append c.args.epoch (λ p. (c.counted.ensures.contains p (p ∷ [])).0 (0, omega arith, refl)) c.args.inputs.now i c.loop-input-test.true c.args.table.now.stamps c.loop-input.table.stamps
    c.requires c.loop-input.invariant.stamps)

pub loop-input-preserved : goal.loop-input-preserved
loop-input-preserved c =
    let i = c.loop-input.input-index in
    let x = slice_index_or c.args.inputs.now i 0 in
    let left = c.take_off.new.self.stamps in
    record {
      plan = c.take_off.ensures.plan ∙ c.loop-input.invariant.plan;
      stamps = next_off c.counted.ensures.append c.args.epoch c.args.inputs.now i c.loop-input-test.true c.args.table.now.stamps c.loop-input.table.stamps left c.loop-input.invariant.stamps
          (λ p. c.take_off.ensures.stamps p ∙ ap (λ t. occurrences p (record { time = t; place = places.Vertex x } ∷ left)) c.new.ensures);
    }

pub returns-clause-stamps : goal.returns-clause-stamps
returns-clause-stamps c p =
    c.loop-input.invariant.stamps p
    ∙ ap (λ xs. occurrences p (map (input_stamp c.args.epoch) xs ++ c.loop-input.table.stamps)) (take_all c.loop-input.input-index c.args.inputs.now c.loop-input-test.false)
