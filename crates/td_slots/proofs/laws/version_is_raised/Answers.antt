use Rattle.td_gate.specs.Region.{opened}
use Rattle.td_slots.specs.Slot.{slot}
use Rattle.td_slots.proofs.Raised.{newest_raised}
use Rattle.td_slots.proofs.laws.version_is_raised.Goals as goal

pub returns : goal.returns
returns c version folds s image at told = newest_raised version folds s.k (opened (slot s 0) image) (opened (slot s 1) image) at told
