use Rattle.td_reach.proofs.Order.{OrderLaws}
use Rattle.td_reach.proofs.Could.{could_true, true_if_could}
use Rattle.td_reach.proofs.Leading.{leads_true, true_if_leads}
use Rattle.td_reach.proofs.laws.could_tested.Goals as goal

pub returns-clause-could : goal.returns-clause-could
returns-clause-could c =
    let laws : OrderLaws = record {
      transitive = c.counter_order.ensures.transitive;
      antisymmetric = c.counter_order.ensures.antisymmetric;
      compared = c.counter_order.ensures.compared;
      tested = c.time_order.ensures.tested;
      times_transitive = c.time_order.ensures.transitive;
      times_antisymmetric = c.time_order.ensures.antisymmetric;
    } in
    λ plan lawful p q hp hq. (could_true plan lawful laws p q hp hq, true_if_could plan lawful laws p q hp hq)

pub returns-clause-leads : goal.returns-clause-leads
returns-clause-leads c =
    let laws : OrderLaws = record {
      transitive = c.counter_order.ensures.transitive;
      antisymmetric = c.counter_order.ensures.antisymmetric;
      compared = c.counter_order.ensures.compared;
      tested = c.time_order.ensures.tested;
      times_transitive = c.time_order.ensures.transitive;
      times_antisymmetric = c.time_order.ensures.antisymmetric;
    } in
    λ plan lawful from to hf ht. (leads_true plan lawful from to hf ht, true_if_leads plan lawful laws from to)
