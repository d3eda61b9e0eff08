use Rattle.std.proofs.Common.{◌<◌, set, ◌≡◌, ap, ◌∙◌, sym, length, arith}
use Rattle.std.proofs.lemmas.Grind.{common_steps}
use Rattle.std.specs.Prelude.{slice_get}
use Rattle.td_task.specs.KeyLists.{with_state}
use Rattle.td_task.proofs.KeysWithItems.{length-with_items, with_items-set}
use Rattle.td_task.proofs.OneMore.{some_at}
use Rattle.td_task.proofs.keyed.KeyedItems.set_state.Goals as goal

pub index_mut-requires : goal.index_mut-requires
index_mut-requires c =
    let same : length c.self.inside.keys.items ≡ length c.args.self.now =
    sym (length-with_items c.self.inside.keys.items c.self.inside.items.lists c.self.invariant) ∙ ap length c.self.view_is in
    grind (arith, common_steps, same)

pub returns : goal.returns
returns c k e =
    let keys = c.self.inside.keys.items in
    let items = c.self.inside.items.lists in
    let i = c.args.index in
    let same : length keys ≡ length c.args.self.now = sym (length-with_items keys items c.self.invariant) ∙ ap length c.self.view_is in
    let below : i < length keys = omega (arith, same, c.requires) in
    let there = some_at keys i c.index_mut.result.now below c.index_mut.ensures.value in
    with_items-set keys items i c.index_mut.result.now k c.args.state there (ap (λ ks. slice_get ks i) c.self.view_is ∙ e)
    ∙ ap (λ ks. set ks i (with_state k c.args.state)) c.self.view_is
