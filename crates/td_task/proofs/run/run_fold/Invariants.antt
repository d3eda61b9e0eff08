use Rattle.std.proofs.Common.{◌≡◌, ◌+◌, ◌*◌, ◌≤◌, length, take, vec_len, vec_capacity}
use Rattle.td_plan.specs.declared.vertex.Kind.TheVariants.{Fold}
use Rattle.td_task.specs.Answered.{sent_for_keys, kept_for_keys}
use Rattle.td_task.proofs.run.run_fold.Given as goal

abbrev pub invariant-loop-index : goal.invariant-loop-index
invariant-loop-index g l = record {
  sent : l.sent.lists ≡ sent_for_keys g.L.Law.answers (Fold l.code) (take l.index l.items);
  states : l.states.items ≡ kept_for_keys g.L.Law.answers (Fold l.code) (take l.index l.items);
  lists : length l.items ≤ l.sent.more_lists + l.index;
  records : length l.items * 8 ≤ l.sent.more_members + l.index * 8;
  kept : vec_len l.states ≡ l.index;
  capacity : length l.items ≤ vec_capacity l.states;
}
