use Rattle.std.proofs.Common.{◌≡◌, ◌<◌, length, get_or, remove, sym, ap, ◌∙◌, subst, true≢false, arith}
use Rattle.std.proofs.lemmas.Grind.{common_steps}
use Rattle.td_progress.specs.Cells.{gaps_of}
use Rattle.td_progress.specs.Gaps.{has_epoch, changed_at, plus, place, without_epoch, AreRising}
use Rattle.td_progress.proofs.ChainSteps.{length_gaps, gaps_remove, take_at_place, stands_there, rising_without}
use Rattle.td_progress.proofs.chain.Chain.take.Goals as goal

pub invariant_of-self : goal.invariant_of-self
invariant_of-self c =
    let cs = c.self.inside.cells.items in
    let e = c.args.epoch in
    let cell = c.in-Some.cell in
    let at = c.place-place.ensures.is ∙ ap (place e) (sym c.self.view_is) in
    let there = ap (has_epoch e) c.self.view_is ∙ c.requires in
    let less = ap gaps_of c.in-Some.ensures.items ∙ (gaps_remove cs c.place-place.result ∙ ap (remove (gaps_of cs)) at) in
    let all = c.raise.ensures ∙ ((λ i. changed_at (at i) (plus cell.gap) (less i)) ∙ take_at_place e 0 cs cell c.self.invariant there (subst (λ i. cell ≡ get_or cs i cell) at c.in-Some.ensures.value)) in
    subst (AreRising 0) (sym all) (rising_without 0 e (gaps_of cs) c.self.invariant)

pub returns-in-Some : goal.returns-in-Some
returns-in-Some c =
    let cs = c.self.inside.cells.items in
    let e = c.args.epoch in
    let cell = c.in-Some.cell in
    let at = c.place-place.ensures.is ∙ ap (place e) (sym c.self.view_is) in
    let there = ap (has_epoch e) c.self.view_is ∙ c.requires in
    let less = ap gaps_of c.in-Some.ensures.items ∙ (gaps_remove cs c.place-place.result ∙ ap (remove (gaps_of cs)) at) in
    c.raise.ensures
    ∙ ((λ i. changed_at (at i) (plus cell.gap) (less i))
    ∙ (take_at_place e 0 cs cell c.self.invariant there (subst (λ i. cell ≡ get_or cs i cell) at c.in-Some.ensures.value) ∙ ap (without_epoch e) c.self.view_is))

pub returns-in_default : goal.returns-in_default
returns-in_default c =
    let cs = c.self.inside.cells.items in
    let e = c.args.epoch in
    let at = c.place-place.ensures.is ∙ ap (place e) (sym c.self.view_is) in
    let there = ap (has_epoch e) c.self.view_is ∙ c.requires in
    let long = length_gaps cs in
    let stands = stands_there e 0 (gaps_of cs) c.self.invariant there in
    let within : c.place-place.result < length cs = omega (arith, at, long, stands) in
    absurd (true≢false (sym (c.in_default.ensures.variant.1 (grind (arith, common_steps, within)))))
