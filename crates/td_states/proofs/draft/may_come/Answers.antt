use Rattle.std.proofs.Common.{rules}
use Rattle.td_states.proofs.draft.may_come.Goals as goal

pub returns-in-Some : goal.returns-in-Some
returns-in-Some c = search rules
