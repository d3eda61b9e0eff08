use Rattle.std.proofs.Common.{◌≡◌, ◌+◌, suc, insert, sym, ap, ◌∙◌, subst, arith}
use Rattle.td_progress.specs.declared.chain.Cell.{Cell}
use Rattle.td_progress.specs.Cells.{gaps_of}
use Rattle.td_progress.specs.Gaps.{Mark, changed_at, minus, place, AreRising}
use Rattle.td_progress.proofs.ChainSteps.{gaps_insert, put_at_place, rising_with}
use Rattle.td_progress.proofs.chain.Chain.put.Goals as goal

pub invariant_of-self-2 : goal.invariant_of-self-2
invariant_of-self-2 c =
    let e = c.args.epoch in
    let m : Mark = record { gap = c.args.gap; times = c.args.times } in
    let cell : Cell = record { epoch = e; gap = c.args.gap; times = c.args.times } in
    let on : c.place-place.result + 1 ≡ suc (place e c.args.self.now) = omega (arith, c.place-place.ensures.is) in
    let put = ap gaps_of c.in_ok-insert.ensures.items ∙ (gaps_insert c.self.inside.cells.items c.place-place.result cell ∙ (λ i. insert (c.self.view_is i) (c.place-place.ensures.is i) (e, m))) in
    let all = c.lower.ensures ∙ ((λ i. changed_at (on i) (minus c.args.gap) (put i)) ∙ put_at_place e m c.args.self.now c.requires) in
    subst (AreRising 0) (sym all) (rising_with 0 e m c.args.self.now (subst (AreRising 0) c.self.view_is c.self.invariant) (omega arith) c.requires)

pub returns-clause-ok : goal.returns-clause-ok
returns-clause-ok c =
    let e = c.args.epoch in
    let m : Mark = record { gap = c.args.gap; times = c.args.times } in
    let cell : Cell = record { epoch = e; gap = c.args.gap; times = c.args.times } in
    let on : c.place-place.result + 1 ≡ suc (place e c.args.self.now) = omega (arith, c.place-place.ensures.is) in
    let put = ap gaps_of c.in_ok-insert.ensures.items ∙ (gaps_insert c.self.inside.cells.items c.place-place.result cell ∙ (λ i. insert (c.self.view_is i) (c.place-place.ensures.is i) (e, m))) in
    c.lower.ensures ∙ ((λ i. changed_at (on i) (minus c.args.gap) (put i)) ∙ put_at_place e m c.args.self.now c.requires)
