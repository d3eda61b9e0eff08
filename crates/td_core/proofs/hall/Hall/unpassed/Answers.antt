use Rattle.std.proofs.Common.{◌+◌, true, false, arith}
use Rattle.td_core.proofs.Unpassed.{is_unpassed, below, not_below}
use Rattle.td_core.proofs.hall.Hall.unpassed.Goals as goal

pub last_passed-last-requires : goal.last_passed-last-requires
last_passed-last-requires g c = (c.reached_in_order.ensures.numbers _ c.self.invariant.reached).base

pub returns-then-last-self : goal.returns-then-last-self
returns-then-last-self g c =
    is_unpassed c.in_any_order.ensures.passed c.self.inside.parts c.self.invariant.counted c.last_passed-last.result true c.args.self.now c.self.view_is c.last_passed-last.ensures.unpassed
    (below (c.last_passed-last.result + 1) c.self.inside.parts.next (omega (arith, c.if-last-self.true)))

pub returns-else-last-self : goal.returns-else-last-self
returns-else-last-self g c =
    is_unpassed c.in_any_order.ensures.passed c.self.inside.parts c.self.invariant.counted c.last_passed-last.result false c.args.self.now c.self.view_is c.last_passed-last.ensures.unpassed
    (not_below (c.last_passed-last.result + 1) c.self.inside.parts.next (omega (arith, c.if-last-self.false)))
