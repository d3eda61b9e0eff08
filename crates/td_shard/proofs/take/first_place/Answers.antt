use Rattle.std.proofs.Common.{arith, ◌≡◌, Bool, true, false, not, get_or, refl, sym, ap, ◌∙◌}
use Rattle.td_shard.specs.Runs.{lane_eq}
use Rattle.td_shard.proofs.TakenUp.{nothing, not_here, is_here, not_past}
use Rattle.td_shard.proofs.take.first_place.Goals as goal

not-true : (b : Bool) → true ≡ not b → b ≡ false
not-true true e = absurd (cc)
not-true false e = refl

not-false : (b : Bool) → false ≡ not b → b ≡ true
not-false true e = refl
not-false false e = absurd (cc)

pub overflow_add-place : goal.overflow_add-place
overflow_add-place c =
    let within = not_past lane_eq c.args.lane.now c.loop-place.place c.args.runs.now.parts c.requires c.loop-place.invariant in
    omega (arith, within, c.lane.ensures.fits)

pub loop-place-preserved : goal.loop-place-preserved
loop-place-preserved c =
    let k = c.args.lane.now in
    let ps = c.args.runs.now.parts in
    let s = get_or ps c.loop-place.place nothing in
    let other : lane_eq k s.lane ≡ false = ap (lane_eq k) (sym (c.lane.ensures.lane nothing)) ∙ not-true (lane_eq k c.lane.result.now) (sym c.loop-place-test.true ∙ c.ne.ensures) in
    c.loop-place.invariant ∙ not_here lane_eq k ps c.loop-place.place s nothing (not_past lane_eq k c.loop-place.place ps c.requires c.loop-place.invariant) refl other

pub returns : goal.returns
returns c =
    let k = c.args.lane.now in
    let ps = c.args.runs.now.parts in
    let s = get_or ps c.loop-place.place nothing in
    let same : lane_eq k s.lane ≡ true = ap (lane_eq k) (sym (c.lane.ensures.lane nothing)) ∙ not-false (lane_eq k c.lane.result.now) (sym c.loop-place-test.false ∙ c.ne.ensures) in
    c.loop-place.invariant ∙ is_here lane_eq k ps c.loop-place.place s nothing (not_past lane_eq k c.loop-place.place ps c.requires c.loop-place.invariant) refl same
