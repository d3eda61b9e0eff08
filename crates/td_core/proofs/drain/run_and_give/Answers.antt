use Rattle.std.proofs.Common.{refl}
use Rattle.td_core.proofs.PostSteps.{roomier_same}
use Rattle.td_core.proofs.Advance.{lacks_none, not_lacking}
use Rattle.td_core.proofs.drain.run_and_give.Goals as goal

pub unreachable-requires : goal.unreachable-requires
unreachable-requires g c =
    not_lacking c.args.task.vertex _ _ _ _ (lacks_none _ c.args.parts.now.table.plan c.args.task.kind c.args.task.vertex c.requires.fits c.requires.kind) c.in-Err-NoCall-default.ensures.refused
    c.in-Err-NoCall-default.field-0-0-is

pub returns-in-Err-Memory-default-clause-err : goal.returns-in-Err-Memory-default-clause-err
returns-in-Err-Memory-default-clause-err g c = record { fields = refl; plan = refl; stamps = λ p. refl; shards = roomier_same c.args.parts.now.shards.items }
