use Rattle.td_stamp.specs.Orders.{state_key_cmp}
use Rattle.td_stamp.specs.ProvedOrders.{state_key_total, state_key_apart}
use Rattle.td_shard.proofs.after.place_laws.Goals as goal

pub returns : goal.returns
returns c = c.sets_by_any_order.ensures state_key_cmp state_key_total state_key_apart
