use Rattle.std.proofs.Common.{◌≡◌, ◌<◌, ◌≤◌, ap, ◌∙◌, sym, length, arith}
use Rattle.std.proofs.lemmas.Grind.{common_steps}
use Rattle.std.specs.Prelude.{slice_get, Some, None}
use Rattle.std.specs.Option.{option_map}
use Rattle.td_task.proofs.KeysWithItems.{length-with_items, with_items-get, with_items-no_items}
use Rattle.td_task.proofs.OneMore.{some_at, none_past}
use Rattle.td_task.proofs.keyed.KeyedItems.at.Goals as goal

pub index-key-requires : goal.index-key-requires
index-key-requires c =
    let same : length c.self.inside.keys.items ≡ length c.args.self.now =
    sym (length-with_items c.self.inside.keys.items c.self.inside.items.lists c.self.invariant) ∙ ap length c.self.view_is in
    grind (arith, common_steps, same)

pub unreachable-requires : goal.unreachable-requires
unreachable-requires c =
    let none : slice_get c.self.inside.items.lists c.args.index ≡ None = sym c.get.ensures ∙ ap (option_map (λ list. list.now)) c.in_default.is in
    let gone : slice_get c.args.self.now c.args.index ≡ None =
    ap (λ l. slice_get l c.args.index) (sym c.self.view_is) ∙ with_items-no_items c.self.inside.keys.items c.self.inside.items.lists c.args.index none in
    let past : length c.args.self.now ≤ c.args.index = none_past c.args.self.now c.args.index gone in
    omega arith

pub returns : goal.returns
returns c =
    let same : length c.self.inside.keys.items ≡ length c.args.self.now =
    sym (length-with_items c.self.inside.keys.items c.self.inside.items.lists c.self.invariant) ∙ ap length c.self.view_is in
    let below : c.args.index < length c.self.inside.keys.items = omega arith in
    let key = some_at c.self.inside.keys.items c.args.index c.index-key.result.now below c.index-key.ensures in
    let own : slice_get c.self.inside.items.lists c.args.index ≡ Some c.in-Some.items.now = sym c.get.ensures ∙ ap (option_map (λ list. list.now)) c.in-Some.is in
    sym (ap (λ l. slice_get l c.args.index) (sym c.self.view_is)
    ∙ with_items-get c.self.inside.keys.items c.self.inside.items.lists c.args.index c.index-key.result.now c.in-Some.items.now key own)
