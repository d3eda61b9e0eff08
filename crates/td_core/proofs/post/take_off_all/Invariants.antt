use Rattle.std.proofs.Common.{◌≡◌, ◌++◌, take}
use Rattle.td_progress.specs.Bag.{IsSameBag}
use Rattle.td_core.specs.Posted.{occurring}
use Rattle.td_core.proofs.post.take_off_all.Given as goal

abbrev pub invariant-loop-change : goal.invariant-loop-change
invariant-loop-change l = record {
  plan : l.table.plan ≡ l.fn.table.plan;
  stamps : IsSameBag l.fn.table.stamps (occurring (take l.change-index l.changes) ++ l.table.stamps);
}
