use Rattle.std.proofs.Common.{subst, arith}
use Rattle.td_machine.specs.Reached.{IsReached}
use Rattle.td_core.specs.Parts.{state_of}
use Rattle.td_core.proofs.DrainSteps.{works_kept, exact, exact_fresh, all_passed, none_unpassed}
use Rattle.td_core.proofs.DrainParts.{did}
use Rattle.td_core.proofs.hall.Hall.drain.Goals as goal

pub returns-in_err-drain_parts-clause-worked : goal.returns-in_err-drain_parts-clause-worked
returns-in_err-drain_parts-clause-worked g c = λ none.
    (c.drain_parts.new.drained.messages, c.drain_parts.new.drained.notes, did g.L.Law.answers c.self.inside.parts c.drain_parts.new.parts c.drain_parts.new.drained c.drain_parts.ensures.further c.args.self.now c.self.view_is)

pub returns-in_err-drain_parts-clause-kept : goal.returns-in_err-drain_parts-clause-kept
returns-in_err-drain_parts-clause-kept g c =
    works_kept g.L.Law.answers _ _ _ _ (did g.L.Law.answers c.self.inside.parts c.drain_parts.new.parts c.drain_parts.new.drained c.drain_parts.ensures.further c.args.self.now c.self.view_is)

pub returns-clause-worked : goal.returns-clause-worked
returns-clause-worked g c = λ none.
    (c.drain_parts.new.drained.messages, c.drain_parts.new.drained.notes, did g.L.Law.answers c.self.inside.parts c.drain_parts.new.parts c.drain_parts.new.drained c.drain_parts.ensures.further c.args.self.now c.self.view_is)

pub returns-clause-kept : goal.returns-clause-kept
returns-clause-kept g c =
    works_kept g.L.Law.answers _ _ _ _ (did g.L.Law.answers c.self.inside.parts c.drain_parts.new.parts c.drain_parts.new.drained c.drain_parts.ensures.further c.args.self.now c.self.view_is)

pub returns-clause-delivered : goal.returns-clause-delivered
returns-clause-delivered g c = did g.L.Law.answers c.self.inside.parts c.drain_parts.new.parts c.drain_parts.new.drained c.drain_parts.ensures.further c.args.self.now c.self.view_is

pub returns-clause-passed : goal.returns-clause-passed
returns-clause-passed g c =
    all_passed g.L.Law.answers c.known.ensures.never_stuck (state_of c.drain_parts.new.parts) c.drain_parts.ensures.further.idle.hall.reached c.in_ok-drain_parts.ensures.none_left

pub returns-clause-unpassed : goal.returns-clause-unpassed
returns-clause-unpassed g c =
    let reached = c.drain_parts.ensures.further.idle.hall.reached in
    none_unpassed (state_of c.drain_parts.new.parts) (c.known.ensures.reached_in_order.numbers _ reached).base
    (all_passed g.L.Law.answers c.known.ensures.never_stuck (state_of c.drain_parts.new.parts) reached c.in_ok-drain_parts.ensures.none_left)

pub returns-clause-exact : goal.returns-clause-exact
returns-clause-exact g c =
    exact g.L.Law.answers c.known.ensures.plays_join.joined c.known.ensures.plays_join.given c.known.ensures.plays_join.released c.known.ensures.exact_work_drained c.args.self.now (state_of c.drain_parts.new.parts) _ _
    (did g.L.Law.answers c.self.inside.parts c.drain_parts.new.parts c.drain_parts.new.drained c.drain_parts.ensures.further c.args.self.now c.self.view_is) c.in_ok-drain_parts.ensures.none_left

pub returns-clause-fresh : goal.returns-clause-fresh
returns-clause-fresh g c =
    let order = c.known.ensures.reached_in_order.numbers c.args.self.now (subst (IsReached g.L.Law.answers) c.self.view_is c.self.invariant.reached) in
    let all = order.given in
    exact_fresh g.L.Law.answers c.args.self.now _ _ (λ none. omega (arith, all, none))
    (exact g.L.Law.answers c.known.ensures.plays_join.joined c.known.ensures.plays_join.given c.known.ensures.plays_join.released c.known.ensures.exact_work_drained c.args.self.now (state_of c.drain_parts.new.parts) _ _
    (did g.L.Law.answers c.self.inside.parts c.drain_parts.new.parts c.drain_parts.new.drained c.drain_parts.ensures.further c.args.self.now c.self.view_is) c.in_ok-drain_parts.ensures.none_left)
