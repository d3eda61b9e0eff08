use Rattle.std.proofs.Common.{◌≡◌, map, take}
use Rattle.td_progress.specs.Bag.{IsSameBag, input_stamp}
use Rattle.td_progress.proofs.table.Table.new.Given as goal

abbrev pub invariant-loop-input : goal.invariant-loop-input
invariant-loop-input l = record {
  plan : l.table.plan ≡ l.fn.reach;
  stamps : IsSameBag l.table.stamps (map (input_stamp l.first) (take l.input-index l.inputs));
}
