use Rattle.std.proofs.Common.{◌≡◌, ◌++◌, ◌∷◌, [], ap, ◌∙◌, arith}
use Rattle.std.proofs.lemmas.Grind.{common_steps}
use Rattle.td_task.specs.declared.keyed.Key.{Key}
use Rattle.td_task.specs.KeyLists.{with_items}
use Rattle.td_task.proofs.KeysWithItems.{with_items-add}
use Rattle.td_task.proofs.keyed.KeyedItems.add.Goals as goal

pub returns-clause-ok : goal.returns-clause-ok
returns-clause-ok c =
    let keys = c.self.inside.keys.items in
    let items = c.self.inside.items.lists in
    let k : Key = record { key = c.args.key; state = c.args.state } in
    let pushed : c.push_reserved.new.self.items ≡ keys ++ k ∷ [] = grind (arith, common_steps) in
    let added : c.add.new.self.lists ≡ items ++ c.args.items.now ∷ [] = grind (arith, common_steps) in
    ap (λ ks. with_items ks c.add.new.self.lists) pushed ∙ ap (with_items (keys ++ k ∷ [])) added
    ∙ with_items-add keys items k c.args.items.now c.self.invariant
    ∙ ap (λ l. l ++ record { key = c.args.key; items = c.args.items.now; state = c.args.state } ∷ []) c.self.view_is
