use Rattle.std.proofs.Common.{◌≡◌, ◌++◌, length, map}
use Rattle.std.specs.String.{string_bytes}
use Rattle.td_orders.specs.Noted.{shown, excerpt}
use Rattle.td_orders.proofs.excerpt.Excerpt.of.Given as goal

abbrev pub invariant-loop-rest : goal.invariant-loop-rest
invariant-loop-rest l = excerpt l.fn.line ≡ string_bytes l.text ++ map shown l.rest

abbrev pub decreases-loop-rest : goal.decreases-loop-rest
decreases-loop-rest l = length l.rest
