use Rattle.std.proofs.Common.{◌≡◌, ◌++◌, [], length}
use Rattle.std.specs.Map.{keys_of}
use Rattle.td_stamp.specs.States.{StateList}
use Rattle.td_shard.specs.declared.after.UnorderedAfter.TheInside.{Inside}
use Rattle.td_shard.specs.After.{states_after, entries_at, AreParts}
use Rattle.td_shard.proofs.after.UnorderedAfterIterator.next.Given as goal

-- the states at the places that are left
abbrev pub ahead : Inside → StateList
ahead s = entries_at (states_after s.epoch s.base.now s.versions.now) (keys_of s.kept ++ keys_of s.left)

abbrev pub parts : Inside → Type 0
parts s = AreParts s.epoch s.base.now s.versions.now s.kept s.left

-- they are those that were left at first
abbrev pub invariant-loop-place : goal.invariant-loop-place
invariant-loop-place l = record {
  same : ahead l.self-inside ≡ ahead l.initial.self-inside;
  parts : parts l.self-inside;
}

abbrev pub decreases-loop-place : goal.decreases-loop-place
decreases-loop-place l = length l.self-inside.kept

abbrev pub invariant-loop-place-2 : goal.invariant-loop-place-2
invariant-loop-place-2 l = record {
  same : ahead l.self-inside ≡ ahead l.initial.self-inside;
  parts : parts l.self-inside;
  passed : l.self-inside.kept ≡ [];
}

abbrev pub decreases-loop-place-2 : goal.decreases-loop-place-2
decreases-loop-place-2 l = length l.self-inside.left
