use Rattle.std.proofs.Common.{◌≡◌, ◌+◌}
use Rattle.std.specs.VecDeque.Iter.{deque_iter_rest}
use Rattle.td_progress.specs.Cells.{gaps_of}
use Rattle.td_progress.specs.Gaps.{sum_to}
use Rattle.td_progress.proofs.chain.Chain.sum_to.Given as goal

abbrev pub invariant-loop-cell : goal.invariant-loop-cell
invariant-loop-cell l = record {
  sum : l.sum + sum_to l.epoch (gaps_of (deque_iter_rest l.cell-iterator)) ≡ sum_to l.epoch l.self;
}
