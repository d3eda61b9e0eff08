use Rattle.td_reach.proofs.Leading.{could_leads, has_place}
use Rattle.td_reach.proofs.laws.could_leads.Goals as goal

pub returns-clause-leads : goal.returns-clause-leads
returns-clause-leads c = could_leads

pub returns-clause-has_place : goal.returns-clause-has_place
returns-clause-has_place c = has_place
