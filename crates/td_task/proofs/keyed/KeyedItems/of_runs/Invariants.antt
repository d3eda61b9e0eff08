use Rattle.std.proofs.Common.{◌≡◌, ◌+◌, ◌≤◌, [], length, drop, vec_capacity}
use Rattle.std.specs.Prelude.{None}
use Rattle.td_task.specs.Arriving.{last_key, with_arrivals, keys_after}
use Rattle.td_task.specs.KeyLists.{with_items}
use Rattle.td_task.proofs.keyed.KeyedItems.of_runs.Given as goal

abbrev pub invariant-loop-arrival : goal.invariant-loop-arrival
invariant-loop-arrival l = record {
  keys : with_arrivals (with_items l.keys.items l.items.lists) (drop l.arrival-index l.arrivals) ≡ with_arrivals [] l.arrivals;
  last : l.last ≡ last_key (with_items l.keys.items l.items.lists);
  same : length l.keys.items ≡ length l.items.lists;
  capacity : keys_after None l.arrivals ≤ vec_capacity l.keys;
  lists : keys_after None l.arrivals ≤ length l.items.lists + l.items.more_lists;
  members : length (drop l.arrival-index l.arrivals) ≤ l.items.more_members;
}
