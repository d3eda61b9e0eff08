use Rattle.std.proofs.lemmas.Slice.Eq.{slice_eq-Decides}
use Rattle.td_task.proofs.SameValues.{items_decide}
use Rattle.td_task.proofs.keyed.same_items.Goals as goal

pub returns : goal.returns
returns c = slice_eq-Decides items_decide _ _ _ c.eq.ensures
