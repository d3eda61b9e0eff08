use Rattle.std.proofs.Common.{◌≡◌, take}
use Rattle.td_progress.specs.declared.ways.Side.TheVariants as sides
use Rattle.td_progress.specs.Ways.{number_of, row}
use Rattle.td_progress.specs.Held.{count_among}
use Rattle.td_progress.proofs.held.count_tested.Given as goal

abbrev pub invariant-loop-number : goal.invariant-loop-number
invariant-loop-number l = l.count ≡ count_among l.ways l.chains.entries l.class l.from l.upto (take l.number-index (row l.ways sides.Before (number_of l.ways l.class.place)))
