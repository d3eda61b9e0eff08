use Rattle.std.proofs.Common.{◌≡◌, ap, sym, ◌∙◌, subst, true, false, unwrap_or}
use Rattle.td_machine.specs.Active.{has_passed}
use Rattle.td_core.specs.declared.error.HallError.TheVariants.{NotPassed}
use Rattle.td_core.specs.Parts.{state_of}
use Rattle.td_core.proofs.Reading.{read_meant}
use Rattle.td_core.proofs.hall.Hall.states_at.Goals as goal

pub returns-then-passed-clause-meaning : goal.returns-then-passed-clause-meaning
returns-then-passed-clause-meaning g c =
    let parts = c.self.inside.parts in
    let e = c.args.epoch in
    let passed : has_passed (state_of parts) e ≡ true = sym (c.in_any_order.ensures.passed _ _ e c.self.invariant.counted) ∙ (sym c.passed.ensures ∙ c.if-passed.true) in
    c.new.ensures ∙ read_meant g.L.Law.answers parts (c.reached.ensures.sound _ c.self.invariant.reached) c.args.self.now c.self.view_is e c.requires.after c.requires.released passed

pub returns-then-passed-clause-passed : goal.returns-then-passed-clause-passed
returns-then-passed-clause-passed g c =
    subst (λ S. has_passed S c.args.epoch ≡ true) c.self.view_is (sym (c.in_any_order.ensures.passed _ _ c.args.epoch c.self.invariant.counted) ∙ (sym c.passed.ensures ∙ c.if-passed.true))

pub returns-else-passed-clause-refused : goal.returns-else-passed-clause-refused
returns-else-passed-clause-refused g c =
    let e = c.args.epoch in
    let passed : has_passed c.args.self.now e ≡ false =
    ap (λ S. has_passed S e) (sym c.self.view_is) ∙ (sym (c.in_any_order.ensures.passed _ _ e c.self.invariant.counted) ∙ (sym c.passed.ensures ∙ c.if-passed.false)) in
    (ap NotPassed (c.unwrap_or.ensures ∙ ap (λ o. unwrap_or o e) c.unpassed.ensures), passed)
