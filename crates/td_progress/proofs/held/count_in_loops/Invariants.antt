use Rattle.std.proofs.Common.{◌≡◌, ◌-◌}
use Rattle.std.specs.List.{range_with_len}
use Rattle.td_progress.specs.Ways.{places_of}
use Rattle.td_progress.specs.Held.{count_among}
use Rattle.td_progress.proofs.held.count_in_loops.Given as goal

abbrev pub invariant-loop-index : goal.invariant-loop-index
invariant-loop-index l = l.count ≡ count_among l.ways l.chains.entries l.class l.from l.upto (range_with_len (places_of l.ways) (l.index - places_of l.ways))
