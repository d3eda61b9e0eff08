use Rattle.td_machine.proofs.laws.bags_of_states.Goals as goal

pub returns-clause-messages : goal.returns-clause-messages
returns-clause-messages c = c.laws_below.ensures.messages

pub returns-clause-stamped : goal.returns-clause-stamped
returns-clause-stamped c = c.laws_below.ensures.stamped

pub returns-clause-left : goal.returns-clause-left
returns-clause-left c = c.laws_below.ensures.left

pub returns-clause-outputs : goal.returns-clause-outputs
returns-clause-outputs c = c.laws_below.ensures.outputs_at

pub returns-clause-notifications : goal.returns-clause-notifications
returns-clause-notifications c = c.laws_below.ensures.notifications
