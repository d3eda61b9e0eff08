use Rattle.std.proofs.Common.{◌∙◌, ap, take}
use Rattle.td_shard.specs.Versions.{taken_back}
use Rattle.td_shard.proofs.LeftBags.{put_and_taken}
use Rattle.td_shard.proofs.versions.Versions.leave.Goals as goal

pub returns-in-Err-clause-err : goal.returns-in-Err-clause-err
returns-in-Err-clause-err c =
    let some = take c.loop-count.count c.args.left.now in
    c.take_back.ensures ∙ (ap (λ l. taken_back l some) (c.in-Err.ensures.err ∙ c.loop-count.invariant) ∙ put_and_taken c.version_laws.ensures some c.args.self.now)
