use Rattle.std.proofs.Common.{sym, ap, ◌∙◌, nat_lt, rules}
use Rattle.std.proofs.lemmas.Grind.{common_steps}
use Rattle.std.proofs.lemmas.List.Sorted.{IsPartitionPoint-from_clause}
use Rattle.td_progress.specs.declared.chain.Cell.{Cell}
use Rattle.td_progress.specs.Gaps.{place}
use Rattle.td_progress.proofs.ChainSteps.{past_all, parted, point_is}
use Rattle.td_progress.proofs.chain.Chain.place.Goals as goal

pub returns-then-is_before-clause-is : goal.returns-then-is_before-clause-is
returns-then-is_before-clause-is c =
    let all = past_all c.args.epoch c.args.self.now (sym c.is_before.ensures ∙ c.if-is_before.true) in
    search (rules, common_steps)

pub returns-clause-is : goal.returns-clause-is
returns-clause-is c =
    let cs = c.self.inside.cells.items in
    let e = c.args.epoch in
    sym (ap (place e) (sym c.self.view_is)
    ∙ point_is e cs c.partition_point.result (search (rules, common_steps))
    (IsPartitionPoint-from_clause (λ (k : Cell). nat_lt k.epoch e) cs _ c.partition_point.ensures.partitioned (parted e 0 cs c.self.invariant) (λ a r q k. search rules)))
