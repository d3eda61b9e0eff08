use Rattle.std.proofs.Common.{◌≡◌, arith, Ok}
use Rattle.std.proofs.lemmas.Grind.{common_steps}
use Rattle.td_orders.specs.Orders.{orders_of}
use Rattle.td_orders.proofs.Accepted.{accepted}
use Rattle.td_orders.proofs.order.read_orders.Goals as goal

pub returns-then-is_between-clause-accepted : goal.returns-then-is_between-clause-accepted
returns-then-is_between-clause-accepted c =
    let read : orders_of c.args.plan.now c.args.input.now ≡ Ok c.read.inside.orders.items = grind (arith, common_steps) in
    accepted c.args.plan.now c.args.input.now c.read.inside.orders.items read
