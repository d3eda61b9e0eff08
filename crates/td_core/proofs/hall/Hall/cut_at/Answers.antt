use Rattle.std.proofs.Common.{◌≡◌, ◌≤◌, ◌<◌, ap, sym, ◌∙◌, subst, true, false, inr, unwrap_or, refl}
use Rattle.td_machine.specs.Active.{has_passed}
use Rattle.td_machine.specs.Steps.{cut_at_by}
use Rattle.td_machine.specs.Steps.Event.{cut_at}
use Rattle.td_machine.specs.Steps.Answer.{refused}
use Rattle.td_machine.specs.Steps.Refusal.{not_passed}
use Rattle.td_core.specs.declared.error.HallError.TheVariants.{Memory}
use Rattle.td_core.specs.Parts.{state_of}
use Rattle.td_core.proofs.CutSteps.{cut_hall, cut_answered, cuts_at, refuses_at, at_err}
use Rattle.td_core.proofs.Meant.{cut_meant}
use Rattle.td_core.proofs.hall.Hall.cut_at.Goals as goal

pub invariant_of-self : goal.invariant_of-self
invariant_of-self g c =
    let parts = c.self.inside.parts in
    let passed : has_passed (state_of parts) c.args.epoch ≡ true = sym (c.in_any_order.ensures.passed _ _ c.args.epoch c.self.invariant.counted) ∙ (sym c.passed.ensures ∙ c.if-passed.true) in
    cut_hall parts c.cut_parts.new.parts c.args.epoch g.L.Law.answers c.reached.ensures.step c.self.invariant (cut_at c.args.epoch)
    (subst (λ S. S.base ≤ c.args.epoch) (sym c.self.view_is) c.requires.after, subst (λ S. c.args.epoch < S.next) (sym c.self.view_is) c.requires.released, cuts_at (state_of parts) c.args.epoch passed)
    c.cut_parts.result c.cut_parts.ensures.ok c.cut_parts.ensures.err

pub returns-then-passed-clause-cut : goal.returns-then-passed-clause-cut
returns-then-passed-clause-cut g c =
    let parts = c.self.inside.parts in
    let e = c.args.epoch in
    let passed : has_passed (state_of parts) e ≡ true = sym (c.in_any_order.ensures.passed _ _ e c.self.invariant.counted) ∙ (sym c.passed.ensures ∙ c.if-passed.true) in
    cut_answered parts c.cut_parts.new.parts e (cut_at_by c.args.self.now (has_passed c.args.self.now e) e) (ap (λ S. cut_at_by S (has_passed S e) e) (sym c.self.view_is) ∙ cuts_at (state_of parts) e passed)
    c.cut_parts.result c.cut_parts.ensures.epoch c.cut_parts.ensures.states c.cut_parts.ensures.ok

pub returns-else-passed-clause-refused : goal.returns-else-passed-clause-refused
returns-else-passed-clause-refused g c =
    let parts = c.self.inside.parts in
    let e = c.args.epoch in
    let passed : has_passed c.args.self.now e ≡ false = ap (λ S. has_passed S e) (sym c.self.view_is) ∙ (sym (c.in_any_order.ensures.passed _ _ e c.self.invariant.counted) ∙ (sym c.passed.ensures ∙ c.if-passed.false)) in
    let least = ap (λ o. unwrap_or o e) (sym c.unpassed.ensures) ∙ sym c.unwrap_or.ensures in
    inr (not_passed c.unwrap_or.result, refl, refuses_at c.args.self.now e passed ∙ ap (λ n. (refused (not_passed n), c.args.self.now)) least)

pub returns-then-passed-clause-meaning : goal.returns-then-passed-clause-meaning
returns-then-passed-clause-meaning g c =
    let parts = c.self.inside.parts in
    let e = c.args.epoch in
    let passed : has_passed (state_of parts) e ≡ true = sym (c.in_any_order.ensures.passed _ _ e c.self.invariant.counted) ∙ (sym c.passed.ensures ∙ c.if-passed.true) in
    cut_meant g.L.Law.answers parts (c.reached.ensures.sound _ c.self.invariant.reached) e (subst (λ S. S.base ≤ e) (sym c.self.view_is) c.requires.after)
    (subst (λ S. e < S.next) (sym c.self.view_is) c.requires.released) passed c.cut_parts.result c.cut_parts.ensures.epoch c.cut_parts.ensures.states c.args.self.now c.self.view_is

pub returns-then-passed-clause-memory_last : goal.returns-then-passed-clause-memory_last
returns-then-passed-clause-memory_last g c =
    let parts = c.self.inside.parts in
    let e = c.args.epoch in
    let passed : has_passed (state_of parts) e ≡ true = sym (c.in_any_order.ensures.passed _ _ e c.self.invariant.counted) ∙ (sym c.passed.ensures ∙ c.if-passed.true) in
    at_err (λ why. why ≡ Memory) (subst (λ S. has_passed S e ≡ true) c.self.view_is passed) c.cut_parts.result
