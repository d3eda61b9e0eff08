use Rattle.std.proofs.Common.{◌≡◌, ◌+◌, ◌≤◌, ◌-◌, length, map, take, vec_len, vec_capacity}
use Rattle.td_core.proofs.Changes.{change_on}
use Rattle.td_core.proofs.post.changes_on.Given as goal

abbrev pub invariant-loop-outlet : goal.invariant-loop-outlet
invariant-loop-outlet l = record {
  items : l.changes.items ≡ map (change_on l.time l.times) (take l.outlet-index l.outlets);
  room : vec_len l.changes + (length l.outlets - l.outlet-index) ≤ vec_capacity l.changes;
}
