use Rattle.std.proofs.Common.{ap, ◌∙◌, drop}
use Rattle.std.proofs.lemmas.List.{drop-drop}
use Rattle.td_keeper.proofs.write_cut.drop_first.Goals as goal

pub loop-each-preserved : goal.loop-each-preserved
loop-each-preserved c = c.pop_front.ensures.rest ∙ (ap (drop 1) c.loop-each.invariant ∙ drop-drop 1 c.loop-each._each c.args.submitted.now.items)
