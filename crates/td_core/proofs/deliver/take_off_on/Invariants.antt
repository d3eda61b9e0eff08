use Rattle.std.proofs.Common.{◌≡◌, ◌++◌, map, take}
use Rattle.td_progress.specs.Bag.{IsSameBag}
use Rattle.td_core.specs.Posted.{occurring}
use Rattle.td_core.proofs.Changes.{change_on}
use Rattle.td_core.proofs.deliver.take_off_on.Given as goal

abbrev pub invariant-loop-outlet : goal.invariant-loop-outlet
invariant-loop-outlet l = record {
  plan : l.table.plan ≡ l.fn.table.plan;
  stamps : IsSameBag l.fn.table.stamps (occurring (take l.outlet-index (map (change_on l.time l.times) l.outlets)) ++ l.table.stamps);
}
