use Rattle.std.proofs.Common.{◌≡◌, map, Some}
use Rattle.td_plan.specs.Text.{natural_of}
use Rattle.td_console.proofs.picks.read_picks.Given as goal

-- the words so far write the picks so far
abbrev pub invariant-loop-word : goal.invariant-loop-word
invariant-loop-word l = map (λ word. natural_of word.now) l.yielded ≡ map Some l.picks.items
