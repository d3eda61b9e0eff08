use Rattle.td_machine.proofs.Waits.{waits_by_place, what_waits, asked_passing}
use Rattle.td_machine.proofs.laws.what_waits.Goals as goal

pub returns-clause-place : goal.returns-clause-place
returns-clause-place c = waits_by_place c.laws_below.ensures

pub returns-clause-items : goal.returns-clause-items
returns-clause-items c = what_waits c.laws_below.ensures

pub returns-clause-asked : goal.returns-clause-asked
returns-clause-asked c = asked_passing
