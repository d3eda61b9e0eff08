use Rattle.std.proofs.Common.{ℕ, ◌≡◌}
use Rattle.std.specs.HashMap as hash
use Rattle.std.specs.Map.{lookup}
use Rattle.td_stamp.specs.States.{same_place}
use Rattle.td_stamp.proofs.Placed.{is_there}
use Rattle.td_stamp.proofs.ordered.OrderedStates.to_states.Given as goal

-- each of those so far is found at its place
abbrev pub invariant-loop-place : goal.invariant-loop-place
invariant-loop-place l = (q : ℕ × ℕ) → hash.get same_place l.kept q ≡ lookup (is_there q) l.yielded
