use Rattle.std.proofs.Common.{◌≡◌, drop}
use Rattle.td_store.specs.group.Groups.{AllFew}
use Rattle.td_keeper.specs.Refused.{all_few}
use Rattle.td_keeper.proofs.submit_all.all_few.Given as goal

-- what is left decides
abbrev pub invariant-loop-each : goal.invariant-loop-each
invariant-loop-each l =
    (all_few l.most l.group ≡ all_few l.most (drop l.each-index l.group)) × (AllFew l.most (drop l.each-index l.group) → AllFew l.most l.group)
