use Rattle.std.proofs.Common.{◌≡◌, ◌++◌, ◌∷◌, [], ap, sym, ◌∙◌, length, arith, take, length-take}
use Rattle.std.proofs.lemmas.List.{take_more}
use Rattle.td_stamp.specs.Bag.{bag_insert, bag_of, members}
use Rattle.td_stamp.proofs.Bags.{length-join, bag_of-push}
use Rattle.td_stamp.proofs.repeats.counted.Goals as goal

pub count_one-requires : goal.count_one-requires
count_one-requires g c =
    let taken = take c.loop-member.member-index c.args.list.now in
    let so_far : length (members c.loop-member.counts.entries) ≡ length (bag_of g.T.Ord.cmp taken) = ap length c.loop-member.invariant in
    record { fits = omega (arith, so_far, length-join g.T.Ord.cmp taken [], length-take c.loop-member.member-index c.args.list.now, c.requires, c.loop-member-test.true) }

pub loop-member-preserved : goal.loop-member-preserved
loop-member-preserved g c =
    let cmp = g.T.Ord.cmp in
    let item = c.member-item.result in
    let taken = take c.loop-member.member-index c.args.list.now in
    c.in_ok-count_one.ensures.ok ∙ ap (bag_insert cmp item) c.loop-member.invariant ∙ sym (bag_of-push cmp g.met.T.Ord.total g.met.T.Member.told_apart taken item)
    ∙ ap (λ x. bag_of cmp (taken ++ x ∷ [])) c.member-item.is ∙ ap (bag_of cmp) (sym (take_more c.args.list.now c.loop-member.member-index item c.loop-member-test.true))
