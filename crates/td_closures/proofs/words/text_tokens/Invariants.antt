use Rattle.std.proofs.Common.{◌≡◌, ◌++◌, length}
use denote.Text.{Utf8}
use denote.Shadow.{shadow}
use Rattle.td_plan.specs.Text.{words}
use Rattle.td_closures.specs.Words.{tokens_of, registers_after}
use Rattle.td_closures.proofs.words.text_tokens.Given as goal

abbrev pub invariant-loop-word : goal.invariant-loop-word
invariant-loop-word l = shadow (Utf8 l.rest)
    × (tokens_of l.fn.scope l.fn.registers (words l.fn.text) ≡ l.tokens.items ++ tokens_of l.fn.scope l.registers (words l.rest))
    × (registers_after l.fn.scope l.fn.registers (words l.fn.text) ≡ registers_after l.fn.scope l.registers (words l.rest))

abbrev pub decreases-loop-word : goal.decreases-loop-word
decreases-loop-word l = length l.rest
