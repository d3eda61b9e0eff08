use Rattle.std.proofs.Common.{map, ap, sym, ◌∙◌}
use Rattle.td_task.specs.KeyLists.{without_state}
use Rattle.td_core.proofs.take.grouped.Goals as goal

pub returns-in-Ok-clause-ok : goal.returns-in-Ok-clause-ok
returns-in-Ok-clause-ok c = c.in-Ok.ensures.keys ∙ ap (map without_state) (sym (c.groups_of_a_bag.ensures c.args.items.now))
