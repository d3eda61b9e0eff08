use Rattle.std.proofs.Common.{◌≡◌, ◌+◌, ◌≤◌, length}
use Rattle.td_plan.specs.Text.{text_lines}
use Rattle.td_orders.specs.Orders.{orders_from, orders_of}
use Rattle.td_orders.proofs.order.read_orders.Given as goal

-- the answer is that of the lines that are left, after the orders so far; each line took a byte of the input
abbrev pub invariant-loop-said : goal.invariant-loop-said
invariant-loop-said l = record {
  answer : orders_of l.fn.plan l.fn.input ≡ orders_from l.fn.plan l.number l.read (text_lines l.rest);
  bytes : l.number + length l.rest ≤ 1 + length l.fn.input;
}

abbrev pub decreases-loop-said : goal.decreases-loop-said
decreases-loop-said l = length l.rest
