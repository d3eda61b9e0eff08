use Rattle.std.proofs.Common.{◌≡◌, map}
use Rattle.std.specs.List.{range_with_len}
use Rattle.td_progress.specs.Ways.{row}
use Rattle.td_progress.proofs.ways.rows.Given as goal

abbrev pub invariant-loop-at : goal.invariant-loop-at
invariant-loop-at l = l.found.items ≡ map (row l.reach l.side) (range_with_len 0 l.at)
