use Rattle.std.proofs.Common.{◌≡◌, ◌++◌, ◌∷◌, take}
use Rattle.std.specs.Prelude.{string_bytes, flat_map}
use Rattle.std.specs.Fmt.{decimal}
use Rattle.td_console.proofs.turns.print_time.Given as goal

-- the counters so far
abbrev pub invariant-loop-counter : goal.invariant-loop-counter
invariant-loop-counter l = string_bytes l.text ≡ string_bytes l.initial.text ++ flat_map (λ j. 44 ∷ decimal j) (take l.counter-index l.inner)
