use Rattle.std.proofs.Common.{◌≡◌, ◌++◌, take, drop}
use Rattle.td_report.specs.Narrowed.{narrowed}
use Rattle.td_report.proofs.plan_text.narrowed.Given as goal

-- the bytes so far are replaced
abbrev pub invariant-loop-at : goal.invariant-loop-at
invariant-loop-at l = l.text.items ≡ narrowed (take l.at l.initial.text.items) ++ drop l.at l.initial.text.items
