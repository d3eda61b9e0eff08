use Rattle.std.proofs.Common.{◌≡◌, ◌-◌, OnOk, ap, sym, ◌∙◌, subst, arith, None, true, inr, refl}
use Rattle.td_machine.specs.Active.{has_passed, unpassed}
use Rattle.td_machine.specs.Sound.{run_states}
use Rattle.td_machine.specs.Steps.{cut_by}
use Rattle.td_machine.specs.Steps.Answer.{has_cut}
use Rattle.td_machine.specs.Steps.Event.{cut}
use Rattle.td_machine.specs.Steps.Refusal.{not_passed}
use Rattle.td_core.specs.declared.error.HallError.TheVariants.{Memory}
use Rattle.td_core.specs.Parts.{state_of}
use Rattle.td_core.proofs.CutSteps.{cut_hall, rebased_answered, cuts, at_err}
use Rattle.td_core.proofs.Meant.{last_passed}
use Rattle.td_core.proofs.hall.Hall.rebase.Goals as goal

pub overflow_sub-last : goal.overflow_sub-last
overflow_sub-last g c = let more = (c.reached_in_order.ensures.numbers _ c.self.invariant.reached).base in omega (arith, more)

pub rebase_parts-requires : goal.rebase_parts-requires
rebase_parts-requires g c = let more = (c.reached_in_order.ensures.numbers _ c.self.invariant.reached).base in omega (arith, more)

pub invariant_of-self : goal.invariant_of-self
invariant_of-self g c =
    let parts = c.self.inside.parts in
    let none : unpassed (state_of parts) ≡ None = ap unpassed c.self.view_is ∙ (sym c.unpassed.ensures ∙ c.in-None.is) in
    cut_hall parts c.rebase_parts.new.parts (parts.next - 1) g.L.Law.answers c.reached.ensures.step c.self.invariant cut (cuts (state_of parts) none) c.rebase_parts.result
    c.rebase_parts.ensures.ok c.rebase_parts.ensures.err

pub returns-in-None-clause-cut : goal.returns-in-None-clause-cut
returns-in-None-clause-cut g c =
    let parts = c.self.inside.parts in
    let new = c.rebase_parts.new.parts in
    let answers = g.L.Law.answers in
    let reached = c.self.invariant.reached in
    let sound = c.reached.ensures.sound _ reached in
    let more = (c.reached_in_order.ensures.numbers _ reached).base in
    let none : unpassed (state_of parts) ≡ None = ap unpassed c.self.view_is ∙ (sym c.unpassed.ensures ∙ c.in-None.is) in
    let passed : has_passed (state_of parts) (parts.next - 1) ≡ true = last_passed answers (state_of parts) sound (c.base_has_passed.ensures _ reached) more none in
    subst (λ S. OnOk c.rebase_parts.result (cut_by S (unpassed S) (S.next - 1) ≡ (has_cut (S.next - 1) (run_states answers S (S.next - 1)), state_of new))) c.self.view_is
    (rebased_answered parts new (parts.next - 1) (cut_by (state_of parts) (unpassed (state_of parts)) (parts.next - 1)) (cuts (state_of parts) none) (run_states answers (state_of parts) (parts.next - 1))
    (sound.states (parts.next - 1) (omega (arith, more)) (omega (arith, more)) passed) c.rebase_parts.result c.rebase_parts.ensures.ok)

pub returns-in-Some-clause-refused : goal.returns-in-Some-clause-refused
returns-in-Some-clause-refused g c =
    inr (not_passed c.in-Some.epoch, refl, ap (λ o. cut_by c.args.self.now o (c.args.self.now.next - 1)) (sym c.unpassed.ensures ∙ c.in-Some.is))

pub returns-in-None-clause-memory_last : goal.returns-in-None-clause-memory_last
returns-in-None-clause-memory_last g c = at_err (λ e. e ≡ Memory) (sym c.unpassed.ensures ∙ c.in-None.is) c.rebase_parts.result
