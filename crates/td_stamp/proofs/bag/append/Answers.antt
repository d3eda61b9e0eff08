use Rattle.std.proofs.Common.{ap, ◌∙◌, ◌++◌}
use Rattle.td_stamp.proofs.Listed.{all_listed}
use Rattle.td_stamp.proofs.bag.append.Goals as goal

pub returns-clause-all : goal.returns-clause-all
returns-clause-all g c =
    c.loop-member.invariant ∙ ap (λ l. l ++ c.loop-member.yielded) c.in_ok-reserve.ensures.items
    ∙ ap (λ l. c.args.list.now.items ++ l)
    (all_listed c.args.bag.now c.loop-member.yielded c.into_iter-member-iterator.result c.loop-member.member-iterator (c.into_iter-member-iterator.ensures.into_iter_gives ∙ c.list-member-items.ensures.all)
    c.loop-member.yielded_by c.in-None.ensures.steps.0)
