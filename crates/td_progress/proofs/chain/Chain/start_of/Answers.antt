use Rattle.std.proofs.Common.{◌-◌, sym, ap, arith}
use Rattle.td_progress.specs.Gaps.{start_of, place}
use Rattle.td_progress.proofs.ChainSteps.{start_first, start_after}
use Rattle.td_progress.proofs.chain.Chain.start_of.Goals as goal

pub returns-then-place-eq0 : goal.returns-then-place-eq0
returns-then-place-eq0 c = sym (start_first c.args.epoch 0 c.args.self.now (omega (arith, c.place-place.ensures.is, c.if-place-eq0.true)))

pub overflow_add-result : goal.overflow_add-result
overflow_add-result c =
    let cs = c.self.inside.cells.items in
    let same = ap (place c.args.epoch) c.self.view_is in
    let r = start_after c.args.epoch 0 (c.place-place.result - 1) cs c.in-Some.last.now (omega (arith, same, c.place-place.ensures.is, c.if-place-eq0.false)) c.in-Some.ensures.lookup in
    omega (arith, r.1, c.ranges.epoch.fits)

pub returns-in-Some : goal.returns-in-Some
returns-in-Some c =
    let cs = c.self.inside.cells.items in
    let same = ap (place c.args.epoch) c.self.view_is in
    let r = start_after c.args.epoch 0 (c.place-place.result - 1) cs c.in-Some.last.now (omega (arith, same, c.place-place.ensures.is, c.if-place-eq0.false)) c.in-Some.ensures.lookup in
    let all = ap (start_of 0 c.args.epoch) c.self.view_is in
    omega (arith, r.0, all)
