use Rattle.std.proofs.Common.{◌∙◌, map, ap}
use Rattle.std.proofs.lemmas.List.{take_all}
use Rattle.td_core.specs.Posted.{occurring}
use Rattle.td_core.proofs.Changes.{change_on, occurring_on}
use Rattle.td_core.proofs.post.changes_on.Goals as goal

pub returns-clause-occurring : goal.returns-clause-occurring
returns-clause-occurring c =
    ap occurring c.loop-outlet.invariant.items
    ∙ (ap (λ outlets. occurring (map (change_on c.args.time.now c.args.times) outlets)) (take_all c.loop-outlet.outlet-index c.args.outlets.now c.loop-outlet-test.false)
    ∙ occurring_on c.args.time.now c.args.times c.args.outlets.now)
