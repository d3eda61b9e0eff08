use Rattle.std.proofs.Common.{◌≡◌, ◌-◌, ◌++◌}
use Rattle.std.specs.Prelude.{string_bytes}
use Rattle.td_feed.specs.Said.{ack_lines}
use Rattle.td_feed.proofs.reply_lines.ack_lines.Given as goal

-- with the lines of the epochs that are left it is all of them
abbrev pub invariant-loop-epoch : goal.invariant-loop-epoch
invariant-loop-epoch l = record { so_far : string_bytes l.lines ++ ack_lines l.epoch (l.end - l.epoch) ≡ ack_lines l.first (l.end - l.first) }
