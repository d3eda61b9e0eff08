use Rattle.std.proofs.Common.{◌==◌, length, refl, ap, sym, ◌∙◌, arith, inr, lit<}
use Rattle.std.specs.List.{slice_split}
use Rattle.std.proofs.lemmas.Iterator.Consumers.{YieldsList-turn, YieldsList-end}
use Rattle.std.proofs.lemmas.Grind.{common_steps}
use Rattle.std.proofs.lemmas.Iterator.Splits.{YieldsList-from_str_split}
use Rattle.std.specs.Str.Iter.{split_text, split_has_more, split_pattern}
use Rattle.td_states.proofs.Pairs.{no_pairs, all_pairs}
use Rattle.td_states.proofs.rename.read_renames.Goals as goal

pub returns-in_default-clause-err : goal.returns-in_default-clause-err
returns-in_default-clause-err c =
    let from = c.into_iter-pair-iterator.ensures.into_iter_gives in
    let given = c.split-pair-items.ensures in
    let turn = YieldsList-turn (YieldsList-from_str_split 44 c.args.text.now (lit< tt) (ap split_text from ∙ given.text) (ap split_has_more from ∙ given.has_more) (ap split_pattern from ∙ given.pattern)) c.loop-pair.yielded c.loop-pair.pair-iterator c.loop-pair.yielded_by c.next.result c.next.new.self c.in-Some.pair c.in-Some.is c.next.ensures.steps in
    inr (refl, no_pairs (slice_split (λ b. b == 44) c.args.text.now) c.in-Some.pair.now (length c.loop-pair.yielded) turn.0 turn.1 (sym c.in_default.ensures))

pub returns-clause-ok : goal.returns-clause-ok
returns-clause-ok c =
    let from = c.into_iter-pair-iterator.ensures.into_iter_gives in
    let given = c.split-pair-items.ensures in
    let end = YieldsList-end (YieldsList-from_str_split 44 c.args.text.now (lit< tt) (ap split_text from ∙ given.text) (ap split_has_more from ∙ given.has_more) (ap split_pattern from ∙ given.pattern)) c.loop-pair.yielded c.loop-pair.pair-iterator c.loop-pair.yielded_by c.next.result c.next.new.self c.in-None.is c.next.ensures.steps in
    all_pairs c.loop-pair.yielded (slice_split (λ b. b == 44) c.args.text.now) c.loop-pair.renames.items end.0 c.loop-pair.invariant

pub loop-pair-preserved : goal.loop-pair-preserved
loop-pair-preserved c = grind (arith, common_steps)
