use Rattle.std.proofs.Common.{◌≡◌, drop, Some}
use Rattle.td_store.specs.group.Groups.{may_follow}
use Rattle.td_keeper.proofs.submit_all.may_follow.Given as goal

-- what is left decides
abbrev pub invariant-loop-each : goal.invariant-loop-each
invariant-loop-each l =
    may_follow (Some l.fn.last) l.group ≡ may_follow (Some l.greatest) (drop l.each-index l.group)
