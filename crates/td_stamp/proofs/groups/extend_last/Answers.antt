use Rattle.std.proofs.Common.{◌≡◌, ap, ◌∙◌, length, ◌-◌, ◌∷◌, ◌++◌, [], ℕ, List, get_or}
use Rattle.std.specs.Prelude.{slice_set}
use Rattle.td_stamp.specs.declared.values.Item.{Item}
use Rattle.td_stamp.proofs.Runs.{with_last_item-set, some_group}
use Rattle.td_stamp.proofs.groups.extend_last.Goals as goal

pub returns : goal.returns
returns c =
    let gs = c.args.groups.now.items in
    let g = c.index_mut-group.result.now in
    let grown : (c.group.inside.key, c.push.new.self.items) ≡ (g.0, g.1 ++ c.args.item ∷ []) =
    ap (λ l. (c.group.inside.key, l)) c.in_ok-push.ensures.items ∙ ap (λ (h : ℕ × List Item). (h.0, h.1 ++ c.args.item ∷ [])) c.group.view_is in
    let place : length c.as_slice.result.now ≡ length gs = ap length c.as_slice.ensures.value in
    (λ i. slice_set gs (place i - 1) (grown i)) ∙ with_last_item-set gs g c.args.item (some_group gs c.requires) (c.index_mut-group.ensures.value ∙ ap (λ n. get_or gs (n - 1) g) place)
