use Rattle.std.proofs.Common.{◌≡◌, ap, sym, ◌∙◌, length, ◌-◌, ℕ, List}
use Rattle.std.specs.Prelude.{Some, slice_get}
use Rattle.std.specs.Option.{option_map, option_copied}
use Rattle.td_stamp.specs.declared.values.Item.{Item}
use Rattle.td_stamp.proofs.Runs.{last_key-slice_get}
use Rattle.td_stamp.proofs.groups.last_key.Goals as goal

pub returns : goal.returns
returns c =
    let key : c.group.inside.key ≡ c.in_ok-group.group.now.0 = ap (λ (g : ℕ × List Item). g.0) c.group.view_is in
    let first : ℕ × List Item → ℕ = λ g. g.0 in
    ap Some key ∙ ap (λ r. option_map first (option_copied r)) (sym c.in_ok-group.was) ∙ ap (option_map first) c.last.ensures.value
    ∙ ap (λ gs. option_map first (slice_get gs (length gs - 1))) c.deref.ensures.value ∙ sym (last_key-slice_get c.args.groups.now.items)
