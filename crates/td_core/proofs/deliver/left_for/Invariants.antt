use Rattle.std.proofs.Common.{◌≡◌, ◌+◌, ◌-◌, ◌≤◌, length, take, vec_len, vec_capacity}
use Rattle.td_task.specs.Answered.{left_for}
use Rattle.td_core.proofs.deliver.left_for.Given as goal

abbrev pub invariant-loop-index : goal.invariant-loop-index
invariant-loop-index l = record {
  left : l.left.items ≡ left_for l.task.time.epoch l.task.vertex l.items (take l.index l.states);
  room : vec_len l.left + (length l.states - l.index) ≤ vec_capacity l.left;
}
