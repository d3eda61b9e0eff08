use Rattle.std.proofs.Common.{◌≡◌, drop}
use Rattle.td_store.specs.group.Groups.{AreBatches}
use Rattle.td_store.specs.standing.Told.{inputs_of}
use Rattle.td_keeper.specs.Refused.{all_accepted}
use Rattle.td_keeper.proofs.submit_all.all_accepted.Given as goal

-- what is left decides
abbrev pub invariant-loop-each : goal.invariant-loop-each
invariant-loop-each l =
    (all_accepted l.plan l.group ≡ all_accepted l.plan (drop l.each-index l.group))
    × (AreBatches (inputs_of l.plan) (drop l.each-index l.group) → AreBatches (inputs_of l.plan) l.group)
