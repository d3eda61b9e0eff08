use Rattle.td_plan.specs.Lines.{text_of}
use Rattle.td_plan.proofs.Canonical.{canonical}
use Rattle.td_plan.proofs.Lengths.{at_most}
use Rattle.td_plan.proofs.Unique.{one_plan}
use Rattle.td_plan.proofs.laws.canonical_text.Goals as goal

pub returns-clause-spells : goal.returns-clause-spells
returns-clause-spells c = canonical

pub returns-clause-no_other : goal.returns-clause-no_other
returns-clause-no_other c p q lawful spelled = one_plan (text_of p) q p spelled (canonical p lawful)

pub returns-clause-bytes : goal.returns-clause-bytes
returns-clause-bytes c = at_most
