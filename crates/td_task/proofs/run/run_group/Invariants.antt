use Rattle.std.proofs.Common.{◌≡◌, ◌+◌, ◌*◌, ◌≤◌, length, take}
use Rattle.td_plan.specs.declared.vertex.Kind.TheVariants.{Group}
use Rattle.td_task.specs.Answered.{sent_for_keys}
use Rattle.td_task.proofs.run.run_group.Given as goal

abbrev pub invariant-loop-index : goal.invariant-loop-index
invariant-loop-index g l = record {
  sent : l.sent.lists ≡ sent_for_keys g.L.Law.answers (Group l.code) (take l.index l.items);
  lists : length l.items ≤ l.sent.more_lists + l.index;
  records : length l.items * 8 ≤ l.sent.more_members + l.index * 8;
}
