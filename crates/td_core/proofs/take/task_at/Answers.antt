use Rattle.std.proofs.Common.{get_or, sym, ◌∙◌, subst}
use Rattle.td_shard.specs.declared.shard.Shard.{Shard}
use Rattle.td_core.specs.Taking.{IsThere}
use Rattle.td_core.proofs.take.task_at.Goals as goal

pub task_for-requires-clause-there : goal.task_for-requires-clause-there
task_for-requires-clause-there c =
    let s = c.index.result.now in
    subst (λ (x : Shard). IsThere x c.args.candidate.now) (sym (c.index.ensures ∙ (λ i. get_or c.args.parts.now.shards.items (c.from.ensures i) s))) (c.requires.there s)
