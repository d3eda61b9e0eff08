use Rattle.std.proofs.Common.{◌∙◌, [], ap, rules, SFits, to_z-of_z}
use Rattle.std.specs.Int.{w64}
use Rattle.td_formula.specs.Environments.{named}
use Rattle.td_formula.specs.Closures.{with_item, answer}
use Rattle.td_formula.proofs.closure.Closure.map_sent.Goals as goal

pub returns : goal.returns
returns c =
    let fits : SFits w64 c.args.rec.val = search rules in
    ap (λ a. a.1) c.answer.ensures
    ∙ ap (λ at. (answer c.args.self.now at []).1)
    (c.set_item.ensures ∙ ap (λ val. with_item c.args.port val (named c.at_first-at.result)) (to_z-of_z fits) ∙ ap (with_item c.args.port c.args.rec.val) c.at_first-at.ensures)
