use Rattle.std.proofs.Common.{◌≡◌, ◌++◌, take}
use Rattle.td_progress.specs.Bag.{IsSameBag}
use Rattle.td_core.specs.Posted.{occurring}
use Rattle.td_core.proofs.post.add_all.Given as goal

abbrev pub invariant-loop-count : goal.invariant-loop-count
invariant-loop-count l = record {
  plan : l.table.plan ≡ l.fn.table.plan;
  stamps : IsSameBag l.table.stamps (occurring (take l.count l.changes) ++ l.fn.table.stamps);
}
