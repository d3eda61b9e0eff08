use Rattle.td_closures.proofs.CanonicalText.{canonical_again}
use Rattle.td_closures.proofs.SpelledText.{spellable}
use Rattle.td_closures.proofs.laws.spelled_again.Goals as goal

pub returns-clause-spellable : goal.returns-clause-spellable
returns-clause-spellable c = spellable

pub returns-clause-again : goal.returns-clause-again
returns-clause-again c text closures t fits = canonical_again closures (spellable text closures t) fits
