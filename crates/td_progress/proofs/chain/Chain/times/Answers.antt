use Rattle.std.proofs.Common.{◌≡◌, ◌<◌, suc, length, get_or, cond, is_some, sym, ap, ◌∙◌, subst, arith}
use Rattle.std.proofs.lemmas.Bool.{eq-eqb, ne_eqb}
use Rattle.td_progress.specs.Cells.{gaps_of}
use Rattle.td_progress.specs.Gaps.{times_at, place}
use Rattle.td_progress.proofs.Gaps.{le_not}
use Rattle.td_progress.proofs.ChainSteps.{length_gaps, times_there, times_past}
use Rattle.td_progress.proofs.chain.Chain.times.Goals as goal

pub returns-in-Some : goal.returns-in-Some
returns-in-Some c =
    let cs = c.self.inside.cells.items in
    let e = c.args.epoch in
    let cell = c.in-Some.cell.now in
    let at : place e (gaps_of cs) ≡ c.place.result = ap (place e) c.self.view_is ∙ sym c.place.ensures.is in
    let is = times_there e 0 cs cell c.self.invariant (subst (λ i. i < length cs) (sym at) c.in-Some.ensures.item.3.0) (subst (λ i. cell ≡ get_or cs i cell) (sym at) c.in-Some.ensures.lookup) in
    sym (sym (ap (times_at e) c.self.view_is) ∙ (is ∙ ap (λ b. cond b cell.times 0) (eq-eqb cell.epoch e c.if-cell-epoch.true)))

pub returns-in_default : goal.returns-in_default
returns-in_default c =
    let cs = c.self.inside.cells.items in
    let e = c.args.epoch in
    let cell = c.in-Some.cell.now in
    let at : place e (gaps_of cs) ≡ c.place.result = ap (place e) c.self.view_is ∙ sym c.place.ensures.is in
    let is = times_there e 0 cs cell c.self.invariant (subst (λ i. i < length cs) (sym at) c.in-Some.ensures.item.3.0) (subst (λ i. cell ≡ get_or cs i cell) (sym at) c.in-Some.ensures.lookup) in
    sym (sym (ap (times_at e) c.self.view_is) ∙ (is ∙ ap (λ b. cond b cell.times 0) (ne_eqb cell.epoch e c.if-cell-epoch.false)))

pub returns-in_default-2 : goal.returns-in_default-2
returns-in_default-2 c =
    let cs = c.self.inside.cells.items in
    let e = c.args.epoch in
    let at : place e (gaps_of cs) ≡ c.place.result = ap (place e) c.self.view_is ∙ sym c.place.ensures.is in
    let long = length_gaps cs in
    let past = le_not (suc c.place.result) (length cs) (sym c.get.ensures.item.0 ∙ ap is_some c.in_default.is) in
    sym (sym (ap (times_at e) c.self.view_is) ∙ times_past e (gaps_of cs) (omega (arith, at, long, past)))
