use Rattle.std.proofs.Common.{◌≡◌, ◌<◌, true, ap, sym, ◌∙◌, subst, arith}
use Rattle.td_machine.specs.Steps.{accepts, release_step, ends}
use Rattle.td_machine.specs.Steps.Answer.{has_released}
use Rattle.td_core.specs.Parts.{state_of}
use Rattle.td_core.proofs.ReleaseSteps.{released_hall, released_so, as_before_state, as_before_hall}
use Rattle.td_core.proofs.hall.Hall.release.Goals as goal

pub invariant_of-self : goal.invariant_of-self
invariant_of-self g c =
    let parts = c.self.inside.parts in
    let accepted : accepts parts.table.plan c.args.batch ≡ true = ap (λ S. accepts S.plan c.args.batch) c.self.view_is ∙ c.requires in
    let below : parts.next < ends = let most = c.self.invariant.next in let other = c.if-self-2.false in omega (arith, most, other) in
    released_hall g.L.Law.answers c.known.ensures.bags_of_states.messages c.known.ensures.counted.append c.known.ensures.reached.step c.known.ensures.stamps_move parts c.bring_in.new.parts c.args.batch c.push_back_reserved.new.self
    c.self.invariant accepted c.if-self.false below (c.known.ensures.reached_in_order.numbers (state_of parts) c.self.invariant.reached).workers c.in-Ok.ensures.ok c.push_back_reserved.ensures.items

pub invariant_of-self-in-Err : goal.invariant_of-self-in-Err
invariant_of-self-in-Err g c =
    let parts = c.self.inside.parts in
    as_before_hall g.L.Law.answers c.known.ensures.bags_of_states.messages parts c.bring_in.new.parts c.self.invariant (c.known.ensures.reached_in_order.numbers (state_of parts) c.self.invariant.reached).workers c.in-Err.ensures.err

pub returns-in-Ok-clause-released : goal.returns-in-Ok-clause-released
returns-in-Ok-clause-released g c =
    let parts = c.self.inside.parts in
    let accepted : accepts parts.table.plan c.args.batch ≡ true = ap (λ S. accepts S.plan c.args.batch) c.self.view_is ∙ c.requires in
    let below : parts.next < ends = let most = c.self.invariant.next in let other = c.if-self-2.false in omega (arith, most, other) in
    sym (ap (λ S. release_step S c.args.batch) c.self.view_is)
    ∙ (released_so g.L.Law.answers c.known.ensures.bags_of_states.messages c.known.ensures.counted.append c.known.ensures.reached.step c.known.ensures.stamps_move parts c.bring_in.new.parts c.args.batch c.push_back_reserved.new.self
    c.self.invariant accepted c.if-self.false below (c.known.ensures.reached_in_order.numbers (state_of parts) c.self.invariant.reached).workers c.in-Ok.ensures.ok c.push_back_reserved.ensures.items
    ∙ ap (λ e. (has_released e, state_of (record c.bring_in.new.parts { batches = c.push_back_reserved.new.self }))) (sym c.in-Ok.ensures.epoch))

pub returns-in-Err-clause-err : goal.returns-in-Err-clause-err
returns-in-Err-clause-err g c =
    let parts = c.self.inside.parts in
    as_before_state g.L.Law.answers c.known.ensures.bags_of_states.messages parts c.bring_in.new.parts c.self.invariant (c.known.ensures.reached_in_order.numbers (state_of parts) c.self.invariant.reached).workers c.in-Err.ensures.err
    ∙ c.self.view_is

pub returns-in-Err-clause-memory_last : goal.returns-in-Err-clause-memory_last
returns-in-Err-clause-memory_last g c is =
    let parts = c.self.inside.parts in
    let below : parts.next < ends = let most = c.self.invariant.next in let other = c.if-self-2.false in omega (arith, most, other) in
    (sym (ap (λ S. S.closed) c.self.view_is) ∙ c.if-self.false, subst (λ S. S.next < ends) c.self.view_is below)
