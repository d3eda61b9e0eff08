use Rattle.std.proofs.Common.{◌≡◌, List, ◌++◌, map, ap, sym, ◌∙◌, append-nil}
use Rattle.std.specs.Prelude.{None}
use Rattle.td_stamp.specs.declared.values.Rec.{Rec}
use Rattle.td_stamp.specs.Orders.{rec_cmp}
use Rattle.td_stamp.specs.Bag.{bag_of, set_of, IsBag}
use Rattle.td_stamp.specs.Groups.{rec_of}
use Rattle.td_batch.specs.Steps.Sent.{once_after}
use Rattle.td_batch.proofs.Once.{once_of_bag, once_bag, all_pass}
use Rattle.td_batch.proofs.sent.distinct.Goals as goal

pub returns : goal.returns
returns c =
    let recs : List Rec = map rec_of c.args.arrived in
    let all : List Rec = bag_of rec_cmp recs in
    let sent : List Rec = c.loop-rec.sent.items in
    let order = c.member_order.ensures in
    let made : sent ≡ once_after None all = sym (ap (λ l. sent ++ once_after c.loop-rec.last l) c.in-None.ensures.steps.0 ∙ append-nil sent) ∙ c.loop-rec.invariant in
    let bag : IsBag rec_cmp (once_after None all) = once_bag order.told_apart order.total.antisymm c.bags.ensures.removes all (c.bags.ensures.gives_a_bag recs) in
    c.from_vec.ensures ∙ ap (bag_of rec_cmp) made ∙ bag ∙ once_of_bag order.told_apart order.total.antisymm c.bags.ensures.removes recs
    ∙ sym (all_pass (set_of rec_cmp recs))
