use Rattle.std.proofs.Common.{◌≡◌, ap, ◌∙◌, sym, length, arith}
use Rattle.std.proofs.lemmas.Grind.{common_steps}
use Rattle.td_task.proofs.KeysWithItems.{length-with_items}
use Rattle.td_task.proofs.keyed.KeyedItems.len.Goals as goal

pub returns : goal.returns
returns c =
    let same : length c.self.inside.keys.items ≡ length c.args.self.now =
    sym (length-with_items c.self.inside.keys.items c.self.inside.items.lists c.self.invariant) ∙ ap length c.self.view_is in
    grind (arith, common_steps, same)
