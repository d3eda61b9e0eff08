use Rattle.std.proofs.lemmas.Slice.Eq.{slice_eq-Decides}
use Rattle.td_task.proofs.SameValues.{recs_decide}
use Rattle.td_task.proofs.task.same_recs.Goals as goal

pub returns : goal.returns
returns c = slice_eq-Decides recs_decide _ _ _ c.eq.ensures
