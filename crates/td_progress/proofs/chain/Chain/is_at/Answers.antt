use Rattle.std.proofs.Common.{◌≡◌, ◌<◌, length, get_or, sym, ap, ◌∙◌, subst, arith}
use Rattle.td_progress.specs.Cells.{gaps_of}
use Rattle.td_progress.specs.Gaps.{has_epoch, place}
use Rattle.td_progress.proofs.ChainSteps.{length_gaps, there_decides, nothing_there}
use Rattle.td_progress.proofs.chain.Chain.is_at.Goals as goal

pub returns-in-Some-clause-is : goal.returns-in-Some-clause-is
returns-in-Some-clause-is c =
    let cs = c.self.inside.cells.items in
    let e = c.args.epoch in
    let cell = c.in-Some.cell.now in
    let at : place e (gaps_of cs) ≡ c.args.at = ap (place e) c.self.view_is ∙ sym c.requires in
    there_decides e 0 cs cell c.self.invariant (subst (λ i. i < length cs) (sym at) c.in-Some.ensures.item.3.0) (subst (λ i. cell ≡ get_or cs i cell) (sym at) c.in-Some.ensures.lookup)
    ∙ ap (has_epoch e) c.self.view_is

pub returns-in-None-clause-is : goal.returns-in-None-clause-is
returns-in-None-clause-is c =
    let cs = c.self.inside.cells.items in
    let e = c.args.epoch in
    let at : place e (gaps_of cs) ≡ c.args.at = ap (place e) c.self.view_is ∙ sym c.requires in
    let long = length_gaps cs in
    sym (sym (ap (has_epoch e) c.self.view_is) ∙ nothing_there e (gaps_of cs) (omega (arith, at, long, c.in-None.ensures.item.3)))
