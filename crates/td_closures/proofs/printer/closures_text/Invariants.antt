use Rattle.std.proofs.Common.{◌≡◌, ◌++◌, length, map}
use Rattle.std.specs.Prelude.{string_bytes}
use Rattle.td_closures.specs.Canonical.{closures_text}
use Rattle.td_closures.specs.Kept.{said_by}
use Rattle.td_closures.proofs.printer.closures_text.Given as goal

abbrev pub invariant-loop-rest : goal.invariant-loop-rest
invariant-loop-rest l = string_bytes l.text ++ closures_text (map said_by l.rest) ≡ closures_text (map said_by l.fn.closures)

abbrev pub decreases-loop-rest : goal.decreases-loop-rest
decreases-loop-rest l = length l.rest
