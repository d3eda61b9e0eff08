use Rattle.std.proofs.Common.{◌≡◌, ◌++◌, flat_map}
use Rattle.td_stamp.specs.Groups.{rec_of}
use Rattle.td_batch.proofs.sent.mapped.Given as goal

-- what was sent so far, and what is sent of the arrivals that are left
abbrev pub invariant-loop-arrival : goal.invariant-loop-arrival
invariant-loop-arrival g l =
    l.sent.items ++ flat_map (λ a. g.L.Law.answers.emit l.code a.item.port (rec_of a)) l.arrival-iterator ≡ flat_map (λ a. g.L.Law.answers.emit l.code a.item.port (rec_of a)) l.fn.arrived
