use Rattle.std.proofs.Common.{◌≡◌, ◌≤◌, ◌<◌, ℕ, false, refl, ap, ◌∙◌, arith}
use Rattle.std.specs.Prelude.{is_some}
use Rattle.std.proofs.lemmas.Bool.{or_from}
use Rattle.td_plan.specs.declared.vertex.Kind.TheVariants.{Map, Group, Fold}
use Rattle.td_calls.specs.Stock.{map_answers, group_answers, fold_answers}
use Rattle.td_catalogue.specs.Shelves.{in_catalogue, is_first}
use Rattle.td_catalogue.specs.Maps.{map_of}
use Rattle.td_catalogue.specs.Groups.{group_of}
use Rattle.td_catalogue.specs.Folds.{fold_of}
use Rattle.td_formula.specs.Stored.{stored_beside}
use Rattle.td_c.specs.Stores.{stored_catalogue}
use Rattle.td_c.proofs.Empty.{spells_none, not_first, adds_nothing}
use Rattle.td_c.proofs.laws.empty_text.Goals as goal

pub returns : goal.returns
returns c =
    let second = c.second_shelf.ensures in
    let neither = c.neither_shelf.ensures in
    let above : (code : ℕ) → 10000 ≤ code → 9999 < code = λ code high. omega (arith, high) in
    let no_map : (code : ℕ) → 10000 ≤ code → in_catalogue (Map code) ≡ false =
    λ code high. or_from (is_some (map_of code)) (is_first map_answers code) (ap is_some (second.maps code (above code high))) (not_first map_answers code high refl) in
    let no_group : (code : ℕ) → 10000 ≤ code → in_catalogue (Group code) ≡ false =
    λ code high. or_from (is_some (group_of code)) (is_first group_answers code) (ap is_some (second.groups code (above code high))) (not_first group_answers code high refl) in
    let no_fold : (code : ℕ) → 10000 ≤ code → in_catalogue (Fold code) ≡ false =
    λ code high. or_from (is_some (fold_of code)) (is_first fold_answers code) (ap is_some (second.folds code (above code high))) (not_first fold_answers code high refl) in
    λ closures text. ap (stored_beside stored_catalogue) (spells_none closures text) ∙ adds_nothing no_map no_group no_fold neither.maps neither.groups neither.folds
