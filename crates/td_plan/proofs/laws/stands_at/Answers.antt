use Rattle.td_plan.proofs.Laid.{stands_at}
use Rattle.td_plan.proofs.laws.stands_at.Goals as goal

pub returns-clause-kind : goal.returns-clause-kind
returns-clause-kind c plan lawful v p at = (stands_at plan lawful v p at).0

pub returns-clause-bounds : goal.returns-clause-bounds
returns-clause-bounds c plan lawful v p at = (stands_at plan lawful v p at).1
