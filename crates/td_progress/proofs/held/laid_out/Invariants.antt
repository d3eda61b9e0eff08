use Rattle.std.proofs.Common.{◌≡◌, [], map}
use Rattle.std.specs.List.{IsDistinct, range_with_len}
use Rattle.std.specs.Map.{keys_of}
use Rattle.td_progress.specs.Bag.{is_stamp}
use Rattle.td_progress.specs.Ways.{outside}
use Rattle.td_progress.proofs.held.laid_out.Given as goal

abbrev pub invariant-loop-number : goal.invariant-loop-number
invariant-loop-number l = record {
  entries : l.chains.entries ≡ map (λ i. (outside l.ways i, [])) (range_with_len 0 l.number);
  once : IsDistinct is_stamp (keys_of l.chains.entries);
}
