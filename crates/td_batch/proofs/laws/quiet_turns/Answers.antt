use Rattle.td_batch.proofs.Quiet.{quiet_turn, quiet_later}
use Rattle.td_batch.proofs.laws.quiet_turns.Goals as goal

pub returns-clause-turn : goal.returns-clause-turn
returns-clause-turn c = quiet_turn

pub returns-clause-later : goal.returns-clause-later
returns-clause-later c = quiet_later
