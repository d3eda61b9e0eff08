use Rattle.std.proofs.Common.{rules, arith}
use Rattle.td_stamp.specs.Orders.{rec_cmp}
use Rattle.td_stamp.specs.ProvedOrders.{rec_total, rec_apart}
use Rattle.td_shard.proofs.Fresh.{new-after, set-after, longer}
use Rattle.td_shard.proofs.seen.put_in.Goals as goal

pub loop-rec-preserved : goal.loop-rec-preserved
loop-rec-preserved c =
    let laws = c.bags_by_any_order.ensures rec_cmp rec_total rec_apart in
    let was = c.loop-rec.invariant in
    let now = c.in_default.ensures in
    record {
      new = new-after laws c.args.set.now.keys c.args.recs.now c.loop-rec.new.items c.loop-rec.set.keys c.put_in_one.new.new.items c.loop-rec.rec-index _ c.loop-rec-test.true was.new was.set now.answer;
      set = set-after laws c.args.set.now.keys c.loop-rec.new.items c.loop-rec.set.keys c.put_in_one.new.new.items c.put_in_one.new.set.keys _ was.set now.answer now.ok;
      room = let l = longer c.loop-rec.new.items c.put_in_one.new.new.items _ _ now.answer in omega (arith, l, was.room, now.capacity, c.loop-rec.new.ok, c.put_in_one.new.new.ok, c.loop-rec-test.true);
    }

pub returns-in-Err-clause-err : goal.returns-in-Err-clause-err
returns-in-Err-clause-err c = search rules
