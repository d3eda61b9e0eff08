use Rattle.std.proofs.Common.{◌≡◌, take}
use Rattle.td_shard.specs.Versions.{taken_back}
use Rattle.td_shard.proofs.versions.Versions.take_back.Given as goal

abbrev pub invariant-loop-one : goal.invariant-loop-one
invariant-loop-one l = l.self ≡ taken_back l.fn.self (take l.one-index l.left)
