-- Which closures the catalogue has, on both its shelves.
use Rattle.std.specs.Prelude.{ℕ, Bool, false, ◌==◌, ◌||◌, List, is_some}
use Rattle.std.specs.Map.{lookup}
use Rattle.td_plan.specs.declared.vertex.Kind.{Kind}
use Rattle.td_plan.specs.declared.vertex.Kind.TheVariants.{Map, Group, Fold}
use Rattle.td_calls.specs.Stored.{Codes}
use Rattle.td_calls.specs.Stock.{map_answers, group_answers, fold_answers}
use Rattle.td_catalogue.specs.Maps.{map_of}
use Rattle.td_catalogue.specs.Groups.{group_of}
use Rattle.td_catalogue.specs.Folds.{fold_of}

-- whether a closure of this code stands on the first shelf, among the answers of its kind
abbrev pub is_first : {C : Type 0} → List (ℕ × C) → ℕ → Bool
is_first answers code = is_some (lookup (λ c. c == code) answers)

-- WHETHER THE CATALOGUE HAS THE CLOSURE of a kind: the second shelf has its code, or the first; a kind without a closure is not in it
abbrev pub in_catalogue : Kind → Bool
in_catalogue (Map code) = is_some (map_of code) || is_first map_answers code
in_catalogue (Group code) = is_some (group_of code) || is_first group_answers code
in_catalogue (Fold code) = is_some (fold_of code) || is_first fold_answers code
in_catalogue _ = false

-- the codes of the closures of each kind
abbrev pub codes : Codes
codes = record {
  map = λ code. in_catalogue (Map code);
  group = λ code. in_catalogue (Group code);
  fold = λ code. in_catalogue (Fold code);
}
