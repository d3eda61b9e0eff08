use Rattle.std.specs.Prelude.{[]}
use Rattle.std.proofs.Common.{refl, ap, sym, ◌∙◌}
use Rattle.std.proofs.lemmas.List.{append-nil}
use Rattle.td_plan.specs.Text.{words}
use Rattle.td_closures.specs.Words.{spaced, tokens_of}
use Rattle.td_closures.specs.Canonical.{expression_text}
use Rattle.td_closures.specs.Spelled.{registers}
use Rattle.td_closures.proofs.Fewest.{spells_again}
use Rattle.td_closures.proofs.Spoken.{says_expression}
use Rattle.td_closures.proofs.laws.canonical_expressions.Goals as goal

pub returns-clause-spells : goal.returns-clause-spells
returns-clause-spells c = spells_again

pub returns-clause-tokens : goal.returns-clause-tokens
returns-clause-tokens c scope n e small named =
    ap (λ x. tokens_of scope (registers n) (words (spaced x))) (sym (append-nil (expression_text e)))
    ∙ (says_expression scope n e [] small named refl).tokens_are
