use Rattle.std.proofs.lemmas.Slice.Eq.{slice_eq-Decides}
use Rattle.td_task.proofs.SameValues.{keys_decide}
use Rattle.td_task.proofs.keyed.same_keys.Goals as goal

pub returns : goal.returns
returns c = slice_eq-Decides keys_decide _ _ _ c.eq.ensures
