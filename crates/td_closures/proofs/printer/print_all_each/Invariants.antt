use Rattle.std.proofs.Common.{◌≡◌, ◌++◌, length, map}
use Rattle.std.specs.Prelude.{string_bytes}
use Rattle.td_closures.specs.Lines.Line.{each}
use Rattle.td_closures.specs.Canonical.{lines_text}
use Rattle.td_closures.specs.Kept.{paired_by}
use Rattle.td_closures.proofs.printer.print_all_each.Given as goal

abbrev pub invariant-loop-rest : goal.invariant-loop-rest
invariant-loop-rest l = string_bytes l.text ++ lines_text (map each (map paired_by l.rest)) ≡ string_bytes l.initial.text ++ lines_text (map each (map paired_by l.fn.pairs))

abbrev pub decreases-loop-rest : goal.decreases-loop-rest
decreases-loop-rest l = length l.rest
