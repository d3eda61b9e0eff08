use Rattle.std.proofs.Common.{◌≡◌, ◌≤◌, length}
use Rattle.td_orders.specs.Lines.{LosesLines}
use Rattle.td_orders.specs.Scripts.{script_in, SameScript}
use Rattle.td_orders.proofs.source.Streamed.read_ahead.Given as goal

-- what is left of the script is the same, with more of it ahead
abbrev pub invariant-loop-line : goal.invariant-loop-line
invariant-loop-line g l = record {
  script : SameScript (script_in l.fn.self) (script_in l.self);
  overlong : LosesLines l.fn.self.rest l.self.rest;
  grows : length l.fn.self.ahead ≤ length l.self.ahead;
  refuses : l.self.refuses ≡ l.fn.self.refuses;
}
