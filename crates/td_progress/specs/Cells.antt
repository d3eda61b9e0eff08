-- What a chain keeps: cells in a queue, each an epoch, its gap, and how often the pointstamp of that epoch occurs.
use Rattle.std.specs.Prelude.{ℕ, List, map}
use Rattle.td_progress.specs.declared.chain.Cell.{Cell}
use Rattle.td_progress.specs.Gaps.{Mark}

-- the epochs of cells, with what is kept of each
abbrev pub gaps_of : List Cell → List (ℕ × Mark)
gaps_of cells = map (λ c. (c.epoch, record { gap = c.gap; times = c.times })) cells
