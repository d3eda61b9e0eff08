use Rattle.std.proofs.Common.{◌≡◌, filter}
use Rattle.std.specs.List.{range_with_len}
use Rattle.td_progress.specs.Ways.{is_on}
use Rattle.td_progress.proofs.ways.row.Given as goal

abbrev pub invariant-loop-other : goal.invariant-loop-other
invariant-loop-other l = l.numbers.items ≡ filter (is_on l.reach l.side l.at) (range_with_len 0 l.other)
