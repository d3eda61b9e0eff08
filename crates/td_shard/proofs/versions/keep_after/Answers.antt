use Rattle.std.proofs.Common.{◌∙◌, ap, sym, drop, filter, nat_lt, rules}
use Rattle.td_shard.proofs.versions.keep_after.Goals as goal

pub returns-clause-left : goal.returns-clause-left
returns-clause-left c =
    let same = c.as_slice.ensures.value in
    search rules ∙ (ap (drop c.count_up_to-count.result) (sym same) ∙ (c.count_up_to-count.ensures.behind ∙ ap (filter (λ k. nat_lt c.args.epoch k.epoch)) same))
