use Rattle.std.proofs.Common.{◌≡◌, ◌++◌, take, map}
use Rattle.std.specs.Prelude.{string_bytes, decimal}
use Rattle.td_plan.specs.Steps.Printed.{spaced}
use Rattle.td_plan.proofs.printer.print_sources.Given as goal

abbrev pub invariant-loop-source : goal.invariant-loop-source
invariant-loop-source l = string_bytes l.text ≡ string_bytes l.initial.text ++ spaced (map decimal (take l.source-index l.sources))
