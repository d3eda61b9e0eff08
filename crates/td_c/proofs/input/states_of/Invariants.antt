use Rattle.std.proofs.Common.{◌≡◌, take}
use Rattle.td_c.specs.Rows.{states_of}
use Rattle.td_c.proofs.input.states_of.Given as goal

abbrev pub invariant-loop-index : goal.invariant-loop-index
invariant-loop-index l = l.states ≡ states_of (take l.index l.rows)
