use Rattle.std.proofs.Common.{rules}
use Rattle.td_slots.proofs.payload.may_come.Goals as goal

pub returns-in-Some : goal.returns-in-Some
returns-in-Some c = search rules
