use Rattle.std.proofs.Common.{◌≡◌, ◌++◌, length}
use Rattle.std.specs.Prelude.{option_map}
use denote.Text.{Utf8}
use denote.Shadow.{shadow}
use Rattle.td_plan.specs.Text.{words}
use Rattle.td_plan.specs.Steps.Words.{numbers_of}
use Rattle.td_plan.proofs.line.read_sources.Given as goal

abbrev pub invariant-loop-word : goal.invariant-loop-word
invariant-loop-word l = shadow (Utf8 l.left) × (numbers_of (words l.fn.rest) ≡ option_map (λ ns. l.sources.items ++ ns) (numbers_of (words l.left)))

abbrev pub decreases-loop-word : goal.decreases-loop-word
decreases-loop-word l = length l.left
