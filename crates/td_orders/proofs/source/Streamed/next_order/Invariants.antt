use Rattle.std.proofs.Common.{◌≡◌}
use Rattle.td_orders.specs.Lines.{LosesLines}
use Rattle.td_orders.specs.Scripts.{script_left, SameScript}
use Rattle.td_orders.proofs.source.Streamed.next_order.Given as goal

-- the lines so far completed no order
abbrev pub invariant-loop-line : goal.invariant-loop-line
invariant-loop-line g l = record {
  script : SameScript (script_left l.fn.self.rest l.fn.self.place) (script_left l.self.rest l.self.place);
  overlong : LosesLines l.fn.self.rest l.self.rest;
  ahead : l.self.ahead ≡ l.fn.self.ahead;
  stopped : l.self.stopped ≡ l.fn.self.stopped;
  refuses : l.self.refuses ≡ l.fn.self.refuses;
}
