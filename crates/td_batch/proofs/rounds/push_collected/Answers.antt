use Rattle.std.proofs.Common.{◌++◌, ◌∷◌, [], List, map, ap, sym, ◌∙◌}
use Rattle.std.proofs.lemmas.List.{append_assoc, map-append}
use Rattle.td_stamp.specs.declared.values.Rec.{Rec}
use Rattle.td_stamp.specs.Orders.{rec_cmp}
use Rattle.td_stamp.specs.Bag.{bag_of}
use Rattle.td_batch.specs.Meaning.{Bags}
use Rattle.td_batch.proofs.rounds.push_collected.Goals as goal

pub loop-each-preserved : goal.loop-each-preserved
loop-each-preserved c =
    let bags : Bags = c.args.bags.now.items in
    let so_far : Bags = c.loop-each.yielded in
    let each : List Rec = c.in-Some.each in
    c.in_ok-push.ensures.items ∙ ap (λ b. c.loop-each.bags.items ++ b ∷ []) (c.own.ensures ∙ c.from_vec.ensures ∙ ap (bag_of rec_cmp) c.each.view_is) ∙ ap (λ bs. bs ++ bag_of rec_cmp each ∷ []) c.loop-each.invariant
    ∙ append_assoc bags (map (bag_of rec_cmp) so_far) (bag_of rec_cmp each ∷ []) ∙ sym (ap (λ bs. bags ++ bs) (map-append (bag_of rec_cmp) so_far (each ∷ [])))
