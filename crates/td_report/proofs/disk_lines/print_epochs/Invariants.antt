use Rattle.std.proofs.Common.{◌≡◌, ◌+◌, ◌++◌, drop}
use Rattle.std.specs.Prelude.{string_bytes}
use Rattle.td_report.specs.Shown.{count_lines}
use Rattle.td_report.proofs.disk_lines.print_epochs.Given as goal

-- with the lines of the epochs that are left it is the text with all of them
abbrev pub invariant-loop-each : goal.invariant-loop-each
invariant-loop-each l = record {
  number : l.epoch ≡ l.kept + l.each-index;
  so_far : string_bytes l.initial.text ++ count_lines (l.kept + 1) l.submitted ≡ string_bytes l.text ++ count_lines (l.epoch + 1) (drop l.each-index l.submitted);
}
