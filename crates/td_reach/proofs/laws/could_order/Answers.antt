use Rattle.td_reach.proofs.Order.{OrderLaws}
use Rattle.td_reach.proofs.Orders.{never_back, could_itself, could_both, could_each_other, could_epochs}
use Rattle.td_reach.proofs.laws.could_order.Goals as goal

pub returns-clause-reflexive : goal.returns-clause-reflexive
returns-clause-reflexive c = could_itself

pub returns-clause-transitive : goal.returns-clause-transitive
returns-clause-transitive c =
    let laws : OrderLaws = record {
      transitive = c.counter_order.ensures.transitive;
      antisymmetric = c.counter_order.ensures.antisymmetric;
      compared = c.counter_order.ensures.compared;
      tested = c.time_order.ensures.tested;
      times_transitive = c.time_order.ensures.transitive;
      times_antisymmetric = c.time_order.ensures.antisymmetric;
    } in
    could_both laws

pub returns-clause-antisymmetric : goal.returns-clause-antisymmetric
returns-clause-antisymmetric c =
    let laws : OrderLaws = record {
      transitive = c.counter_order.ensures.transitive;
      antisymmetric = c.counter_order.ensures.antisymmetric;
      compared = c.counter_order.ensures.compared;
      tested = c.time_order.ensures.tested;
      times_transitive = c.time_order.ensures.transitive;
      times_antisymmetric = c.time_order.ensures.antisymmetric;
    } in
    could_each_other laws

pub returns-clause-epochs : goal.returns-clause-epochs
returns-clause-epochs c = could_epochs

pub returns-clause-no_way_back : goal.returns-clause-no_way_back
returns-clause-no_way_back c =
    let laws : OrderLaws = record {
      transitive = c.counter_order.ensures.transitive;
      antisymmetric = c.counter_order.ensures.antisymmetric;
      compared = c.counter_order.ensures.compared;
      tested = c.time_order.ensures.tested;
      times_transitive = c.time_order.ensures.transitive;
      times_antisymmetric = c.time_order.ensures.antisymmetric;
    } in
    never_back laws
