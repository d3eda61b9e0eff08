use Rattle.std.proofs.Common.{◌≡◌, ◌++◌, flat_map, length, map}
use Rattle.td_stamp.specs.States.{state_of}
use Rattle.td_batch.proofs.sent.folded.Given as goal

-- what was sent so far, and what is sent for the keys that are left; the same of the states that are to be kept
abbrev pub invariant-loop-sent : goal.invariant-loop-sent
invariant-loop-sent g l =
    (l.sent.items ++ flat_map (λ p. (g.L.Law.answers.fold l.code p.0 (state_of (g.S.KeptStates.states l.states) l.vertex p.0) p.1).1) l.keys
    ≡ flat_map (λ p. (g.L.Law.answers.fold l.code p.0 (state_of (g.S.KeptStates.states l.states) l.vertex p.0) p.1).1) l.fn.keys)
    × (l.changes.items ++ map (λ p. record { vertex = l.vertex; key = p.0; state = (g.L.Law.answers.fold l.code p.0 (state_of (g.S.KeptStates.states l.states) l.vertex p.0) p.1).0 }) l.keys
    ≡ l.initial.changes.items ++ map (λ p. record { vertex = l.vertex; key = p.0; state = (g.L.Law.answers.fold l.code p.0 (state_of (g.S.KeptStates.states l.states) l.vertex p.0) p.1).0 }) l.fn.keys)

abbrev pub decreases-loop-sent : goal.decreases-loop-sent
decreases-loop-sent g l = length l.keys
