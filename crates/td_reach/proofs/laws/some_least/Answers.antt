use Rattle.td_reach.proofs.Order.{OrderLaws}
use Rattle.td_reach.proofs.Orders.{least_of}
use Rattle.td_reach.proofs.laws.some_least.Goals as goal

pub returns : goal.returns
returns c =
    let laws : OrderLaws = record {
      transitive = c.counter_order.ensures.transitive;
      antisymmetric = c.counter_order.ensures.antisymmetric;
      compared = c.counter_order.ensures.compared;
      tested = c.time_order.ensures.tested;
      times_transitive = c.time_order.ensures.transitive;
      times_antisymmetric = c.time_order.ensures.antisymmetric;
    } in
    λ plan lawful all some of. least_of laws plan lawful all some of
