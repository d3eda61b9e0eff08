use Rattle.std.proofs.Common.{◌∷◌, ◌==◌, [], List, ℕ, Option, ap, sym, ◌∙◌}
use Rattle.std.specs.Borrow.{Bor}
use Rattle.std.specs.List.{slice_split}
use Rattle.std.specs.Option.{option_map_or}
use Rattle.td_states.proofs.Pairs.{third_part}
use Rattle.td_states.proofs.rename.rename_of.Goals as goal

pub returns-then-is_some : goal.returns-then-is_some
returns-then-is_some c =
    let first = c.cut.ensures ∙ ap (λ (o : Option (Bor (List ℕ))). c.cut.result.0.now ∷ option_map_or (λ rest. slice_split (λ b. b == 61) rest.now) o []) c.in_ok-rest.was in
    sym (third_part c.args.pair.now c.cut.result.0.now c.in_ok-rest.field-0.now c.cut-2.result.0.now c.cut-2.result.1 first c.cut-2.ensures (sym c.is_some.ensures ∙ c.if-is_some.true))
