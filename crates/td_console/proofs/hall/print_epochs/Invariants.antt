use Rattle.std.proofs.Common.{◌≡◌, ◌++◌, take}
use Rattle.std.specs.Prelude.{string_bytes}
use Rattle.td_console.specs.Answer.{output_text}
use Rattle.td_console.proofs.hall.print_epochs.Given as goal

-- the lines of the epochs so far
abbrev pub invariant-loop-epoch : goal.invariant-loop-epoch
invariant-loop-epoch l = string_bytes l.text ≡ string_bytes l.initial.text ++ output_text (take l.epoch-index l.epochs)
