use Rattle.std.proofs.Common.{◌≡◌, ◌++◌, map, take}
use Rattle.td_progress.specs.Bag.{IsSameBag, input_stamp}
use Rattle.td_core.proofs.release.take_off_inputs.Given as goal

abbrev pub invariant-loop-input : goal.invariant-loop-input
invariant-loop-input l = record {
  plan : l.table.plan ≡ l.fn.table.plan;
  stamps : IsSameBag l.fn.table.stamps (map (input_stamp l.epoch) (take l.input-index l.inputs) ++ l.table.stamps);
}
