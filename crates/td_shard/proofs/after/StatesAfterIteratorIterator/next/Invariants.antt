use Rattle.std.proofs.Common.{◌≡◌, length}
use Rattle.td_shard.specs.After.{states_after, entries_at}
use Rattle.td_shard.proofs.after.StatesAfterIteratorIterator.next.Given as goal

-- the states at the places that are left are those that were left at first
abbrev pub invariant-loop-place : goal.invariant-loop-place
invariant-loop-place l =
    entries_at (states_after l.self-inside.epoch l.self-inside.base.now l.self-inside.versions.now) l.self-inside.places
    ≡ entries_at (states_after l.initial.self-inside.epoch l.initial.self-inside.base.now l.initial.self-inside.versions.now) l.initial.self-inside.places

abbrev pub decreases-loop-place : goal.decreases-loop-place
decreases-loop-place l = length l.self-inside.places
