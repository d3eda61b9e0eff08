use Rattle.std.proofs.Common.{◌≡◌, ◌++◌}
use Rattle.std.specs.Prelude.{string_bytes, flat_map}
use Rattle.td_console.specs.Answer.{output_line}
use Rattle.td_console.proofs.answer.print_epoch.Given as goal

-- the lines of the outputs so far
abbrev pub invariant-loop-output : goal.invariant-loop-output
invariant-loop-output l = string_bytes l.text ≡ string_bytes l.initial.text ++ flat_map (output_line l.epoch.epoch) l.yielded
