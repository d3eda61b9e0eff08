use Rattle.std.proofs.Common.{sym, ap, ◌∙◌, length}
use Rattle.td_shard.specs.Runs.{Part}
use Rattle.td_shard.proofs.Placed.{placed}
use Rattle.td_shard.proofs.runs.Runs.waiting.Goals as goal

pub overflow_sub-result : goal.overflow_sub-result
overflow_sub-result c = (placed c.self.inside c.args.self.now c.args.place c.index-run.result.now c.self.invariant c.self.view_is c.requires c.index-run.ensures).where_it.some

pub returns-clause-count : goal.returns-clause-count
returns-clause-count c d =
    let at = placed c.self.inside c.args.self.now c.args.place c.index-run.result.now c.self.invariant c.self.view_is c.requires c.index-run.ensures in
    sym (ap (λ (p : Part). length p.recs) (at.its d) ∙ at.many)
