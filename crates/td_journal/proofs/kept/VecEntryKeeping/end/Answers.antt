use Rattle.std.proofs.Common.{◌≡◌, ap, ◌∙◌}
use Rattle.td_stamp.specs.Orders.{entry_cmp}
use Rattle.td_stamp.specs.ProvedOrders.{entry_total}
use Rattle.td_stamp.specs.Bag.{bag_of}
use Rattle.td_journal.proofs.Order.{bag_from_chain}
use Rattle.td_journal.proofs.kept.VecEntryKeeping.end.Goals as goal

pub returns : goal.returns
returns c es taken chain many =
    let batch : c.from_vec-batch.result ≡ es = c.from_vec-batch.ensures ∙ ap (bag_of entry_cmp) taken ∙ bag_from_chain entry_cmp entry_total es chain in
    λ i. record { request = c.args.front.now.request; batch = batch i }
