use Rattle.std.proofs.Common.{◌≡◌, ◌++◌, flat_map, length}
use Rattle.td_batch.proofs.sent.grouped.Given as goal

-- what was sent so far, and what is sent for the keys that are left
abbrev pub invariant-loop-sent : goal.invariant-loop-sent
invariant-loop-sent g l =
    l.sent.items ++ flat_map (λ p. g.L.Law.answers.group l.code p.0 p.1) l.keys ≡ flat_map (λ p. g.L.Law.answers.group l.code p.0 p.1) l.fn.keys

abbrev pub decreases-loop-sent : goal.decreases-loop-sent
decreases-loop-sent g l = length l.keys
