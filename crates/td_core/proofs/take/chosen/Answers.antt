use Rattle.std.proofs.Common.{◌≡◌, Some, get_or, ◌∙◌, subst, rules}
use Rattle.std.proofs.lemmas.List.{get_or_default}
use Rattle.td_shard.specs.declared.shard.Shard.{Shard}
use Rattle.td_core.specs.Taking.{IsPicked}
use Rattle.td_core.proofs.Picking.{task_same}
use Rattle.td_core.proofs.take.chosen.Goals as goal

pub returns-clause-chosen : goal.returns-clause-chosen
returns-clause-chosen c = (
  λ d.
      let parts = c.args.parts.now in
      let there = c.index-there.result.now in
      let its : there ≡ get_or parts.shards.items c.args.shard d =
      c.index-there.ensures ∙ (λ i. get_or parts.shards.items (c.from.ensures i) there) ∙ get_or_default parts.shards.items c.args.shard there d c.requires.within in (
        subst (λ (x : Shard). IsPicked parts.table x c.args.pick (Some c.in-Some.candidate)) its c.in-Some.ensures,
        task_same parts c.sort_items.new.shards c.args.shard d c.in-Some.candidate c.in_ok-task.task c.sort_items.ensures (c.in_ok-task.ensures.ok d),
      ),
  search rules,
)
