use Rattle.std.proofs.Common.{rules}
use Rattle.td_slots.proofs.slots.Slots.slot.Goals as goal

pub returns-clause-region : goal.returns-clause-region
returns-clause-region c = search rules
