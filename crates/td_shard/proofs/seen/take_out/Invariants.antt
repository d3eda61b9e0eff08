use Rattle.std.proofs.Common.{◌≡◌, List, drop}
use Rattle.td_stamp.specs.declared.values.Rec.{Rec}
use Rattle.td_stamp.specs.Orders.{rec_cmp}
use Rattle.td_stamp.specs.Bag.{join}
use Rattle.td_shard.proofs.seen.take_out.Given as goal

abbrev pub invariant-loop-rec : goal.invariant-loop-rec
invariant-loop-rec l = (keys : List Rec) → l.fn.set.keys ≡ join rec_cmp l.fn.recs keys → l.set.keys ≡ join rec_cmp (drop l.rec-index l.recs) keys
