use Rattle.std.proofs.Common.{◌≡◌, take}
use Rattle.td_stamp.specs.Bag.{join}
use Rattle.td_machine.specs.State.{left_cmp}
use Rattle.td_shard.proofs.versions.Versions.leave.Given as goal

abbrev pub invariant-loop-count : goal.invariant-loop-count
invariant-loop-count l = l.self ≡ join left_cmp (take l.count l.left) l.fn.self
