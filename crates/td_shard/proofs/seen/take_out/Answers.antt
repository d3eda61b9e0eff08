use Rattle.std.proofs.Common.{◌∙◌}
use Rattle.td_stamp.specs.Orders.{rec_cmp}
use Rattle.td_stamp.specs.ProvedOrders.{rec_total, rec_apart}
use Rattle.td_shard.proofs.Fresh.{one-out}
use Rattle.td_shard.proofs.seen.take_out.Goals as goal

pub loop-rec-preserved : goal.loop-rec-preserved
loop-rec-preserved c keys e =
    c.remove.ensures.keys ∙ one-out (c.bags_by_any_order.ensures rec_cmp rec_total rec_apart) c.args.recs.now keys c.loop-rec.set.keys c.loop-rec.rec-index _ c.loop-rec-test.true (c.loop-rec.invariant keys e)
