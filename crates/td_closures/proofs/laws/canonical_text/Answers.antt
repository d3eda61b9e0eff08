use Rattle.td_closures.proofs.CanonicalText.{canonical_again}
use Rattle.td_closures.proofs.laws.canonical_text.Goals as goal

pub returns : goal.returns
returns c = canonical_again
