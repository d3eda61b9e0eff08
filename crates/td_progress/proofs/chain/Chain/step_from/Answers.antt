use Rattle.std.proofs.Common.{sym, ap, ◌∙◌, subst}
use Rattle.td_progress.specs.Gaps.{changed_at, changed_from, plus, minus, AreRising}
use Rattle.td_progress.specs.Held.{stepped}
use Rattle.td_progress.proofs.ChainSteps.{step_at_place, rising_changed}
use Rattle.td_progress.proofs.chain.Chain.step_from.Goals as goal

pub invariant_of-self : goal.invariant_of-self
invariant_of-self c =
    let all = c.raise.ensures ∙ ((λ i. changed_at (c.place-place.ensures.is i) (plus 1) (c.self.view_is i)) ∙ step_at_place c.args.epoch (plus 1) c.args.self.now) in
    subst (AreRising 0) (sym all) (rising_changed 0 c.args.epoch (plus 1) c.args.self.now (subst (AreRising 0) c.self.view_is c.self.invariant))

pub invariant_of-self-in-Down : goal.invariant_of-self-in-Down
invariant_of-self-in-Down c =
    let all = c.lower.ensures ∙ ((λ i. changed_at (c.place-place.ensures.is i) (minus 1) (c.self.view_is i)) ∙ step_at_place c.args.epoch (minus 1) c.args.self.now) in
    subst (AreRising 0) (sym all) (rising_changed 0 c.args.epoch (minus 1) c.args.self.now (subst (AreRising 0) c.self.view_is c.self.invariant))

pub returns-in-Up : goal.returns-in-Up
returns-in-Up c =
    c.raise.ensures
    ∙ ((λ i. changed_at (c.place-place.ensures.is i) (plus 1) (c.self.view_is i))
    ∙ (step_at_place c.args.epoch (plus 1) c.args.self.now ∙ ap (λ s. changed_from c.args.epoch (stepped s) c.args.self.now) (sym c.in-Up.is)))

pub returns-in-Down : goal.returns-in-Down
returns-in-Down c =
    c.lower.ensures
    ∙ ((λ i. changed_at (c.place-place.ensures.is i) (minus 1) (c.self.view_is i))
    ∙ (step_at_place c.args.epoch (minus 1) c.args.self.now ∙ ap (λ s. changed_from c.args.epoch (stepped s) c.args.self.now) (sym c.in-Down.is)))
