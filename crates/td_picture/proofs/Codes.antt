-- The rows of the catalogue's table have the codes of its law: row by row, their codes are those of the law's own tables.
use Rattle.std.proofs.Common.{◌≡◌, ℕ, ◌+◌, ◌-◌, ◌*◌, ◌/◌, Bool, true, false, ◌&&◌, ◌||◌, ◌==◌, nat_le, if◌then◌else◌, List, [], ◌∷◌, ◌++◌, map, refl, ap, ◌∙◌, arith}
use Rattle.std.specs.Prelude.{Option, Some, None, cond, is_some}
use Rattle.std.specs.List.{list_any}
use Rattle.std.specs.Map.{lookup}
use Rattle.std.proofs.Math.Bool.{or_comm}
use Rattle.std.proofs.lemmas.Bool.Decides.{nat_tests}
use Rattle.std.proofs.lemmas.Grind.{common_steps}
use Rattle.std.proofs.lemmas.List.Folds.{list_any-append}
use Rattle.td_plan.specs.declared.vertex.Kind.TheVariants.{Map, Group, Fold}
use Rattle.td_calls.specs.Stock.{map_answers, group_answers, fold_answers}
use Rattle.td_catalogue.specs.declared.fold_step.FoldStep.{FoldStep}
use Rattle.td_catalogue.specs.declared.fold_step.FoldStep.TheVariants as folds_of
use Rattle.td_catalogue.specs.declared.group_step.GroupStep.TheVariants as groups_of
use Rattle.td_catalogue.specs.Maps.{parameter_maps, plain_maps, map_of}
use Rattle.td_catalogue.specs.Groups.{group_of}
use Rattle.td_catalogue.specs.Folds.{plain_folds, fold_of}
use Rattle.td_catalogue.specs.Shelves.{in_catalogue}
use Rattle.td_catalogue.specs.Values.{is_between}
use Rattle.td_picture.specs.Words.{Row, map_rows, group_rows, fold_rows, is_in}

-- the first and the last code of a row, and whether a code is one of those
abbrev Range : Type 0
Range = ℕ × ℕ

abbrev within : ℕ → Range → Bool
within code range = nat_le range.0 code && nat_le code range.1

abbrev ranges : List Row → List Range
ranges rows = map (λ row. (row.0, row.1)) rows

-- those of a table of the law, whose codes are single ones, or thousands
abbrev alone : {X : Type 0} → List (ℕ × X) → List Range
alone table = map (λ r. (r.0, r.0)) table

abbrev thousands : {X : Type 0} → List (ℕ × X) → List Range
thousands table = map (λ r. (1000 * r.0, 1000 * r.0 + 999)) table

by_ranges : (rows : List Row) (code : ℕ) → list_any (is_in code) rows ≡ list_any (within code) (ranges rows)
by_ranges [] code = refl
by_ranges (row ∷ rows) code = ap (λ (rest : Bool). is_in code row || rest) (by_ranges rows code)

at_one : (c code : ℕ) → within code (c, c) ≡ (c == code)
at_one c code = grind (arith, nat_tests)

at_code : (c code : ℕ) → within code (c, c) ≡ (code == c)
at_code c code = grind (arith, nat_tests)

at_thousand : (k code : ℕ) → within code (1000 * k, 1000 * k + 999) ≡ (k == code / 1000)
at_thousand k code = grind (arith, nat_tests)

in_alone : {X : Type 0} (table : List (ℕ × X)) (code : ℕ) → list_any (within code) (alone table) ≡ is_some (lookup (λ c. c == code) table)
in_alone [] code = refl
in_alone (r ∷ table) code =
    ap (λ (b : Bool). b || list_any (within code) (alone table)) (at_one r.0 code)
    ∙ ap (λ (rest : Bool). (r.0 == code) || rest) (in_alone table code)
    ∙ by (r.0 == code)
  where
    by : (b : Bool) → (b || is_some (lookup (λ c. c == code) table)) ≡ is_some (cond b (Some r.1) (lookup (λ c. c == code) table))
    by true = refl
    by false = refl

in_thousands : {X : Type 0} (table : List (ℕ × X)) (code : ℕ) → list_any (within code) (thousands table) ≡ is_some (lookup (λ k. k == code / 1000) table)
in_thousands [] code = refl
in_thousands (r ∷ table) code =
    ap (λ (b : Bool). b || list_any (within code) (thousands table)) (at_thousand r.0 code)
    ∙ ap (λ (rest : Bool). (r.0 == code / 1000) || rest) (in_thousands table code)
    ∙ by (r.0 == code / 1000)
  where
    by : (b : Bool) → (b || is_some (lookup (λ k. k == code / 1000) table)) ≡ is_some (cond b (Some r.1) (lookup (λ k. k == code / 1000) table))
    by true = refl
    by false = refl

-- the rows of a kind are those of the first shelf, and then those of the second
both_shelves : {X : Type 0} (rows : List Row) (first : List (ℕ × X)) (second : List Range) (has_second : Bool) (code : ℕ)
    → ranges rows ≡ alone first ++ second → list_any (within code) second ≡ has_second
    → list_any (is_in code) rows ≡ (has_second || is_some (lookup (λ c. c == code) first))
both_shelves rows first second has_second code same by_second =
    by_ranges rows code
    ∙ ap (λ (rs : List Range). list_any (within code) rs) same
    ∙ list_any-append (within code) (alone first) second
    ∙ ap (λ (b : Bool). b || list_any (within code) second) (in_alone first code)
    ∙ ap (λ (b : Bool). is_some (lookup (λ c. c == code) first) || b) by_second
    ∙ or_comm (is_some (lookup (λ c. c == code) first)) has_second

-- MAPS
of_both : (code : ℕ) → (is_some (lookup (λ k. k == code / 1000) parameter_maps) || is_some (lookup (λ c. c == code) plain_maps)) ≡ is_some (map_of code)
of_both code = grind (arith, common_steps)

second_maps : (code : ℕ) → list_any (within code) (thousands parameter_maps ++ alone plain_maps) ≡ is_some (map_of code)
second_maps code =
    list_any-append (within code) (thousands parameter_maps) (alone plain_maps)
    ∙ ap (λ (b : Bool). b || list_any (within code) (alone plain_maps)) (in_thousands parameter_maps code)
    ∙ ap (λ (b : Bool). is_some (lookup (λ k. k == code / 1000) parameter_maps) || b) (in_alone plain_maps code)
    ∙ of_both code

pub maps : (code : ℕ) → list_any (is_in code) map_rows ≡ in_catalogue (Map code)
maps code = both_shelves map_rows map_answers (thousands parameter_maps ++ alone plain_maps) (is_some (map_of code)) code refl (second_maps code)

-- GROUPS
abbrev group_ranges : List Range
group_ranges = (9100, 9100) ∷ (9101, 9108) ∷ (9109, 9109) ∷ (9110, 9119) ∷ []

second_groups : (code : ℕ) → list_any (within code) group_ranges ≡ is_some (group_of code)
second_groups code =
    ap (λ (a : Bool). a || (is_between 9101 9108 code || (within code (9109, 9109) || (is_between 9110 9119 code || false)))) (at_code 9100 code)
    ∙ ap (λ (c : Bool). (code == 9100) || (is_between 9101 9108 code || (c || (is_between 9110 9119 code || false)))) (at_code 9109 code)
    ∙ by (code == 9100) (is_between 9101 9108 code) (code == 9109) (is_between 9110 9119 code)
  where
    by : (a b c d : Bool) → (a || (b || (c || (d || false)))) ≡ is_some (if a then Some groups_of.DistinctValues else (if b then Some (groups_of.GreatestValues (code - 9100)) else (if c then Some groups_of.Average else (if d then Some (groups_of.Pairs (code - 9110)) else None))))
    by true b c d = refl
    by false true c d = refl
    by false false true d = refl
    by false false false true = refl
    by false false false false = refl

pub groups : (code : ℕ) → list_any (is_in code) group_rows ≡ in_catalogue (Group code)
groups code = both_shelves group_rows group_answers group_ranges (is_some (group_of code)) code refl (second_groups code)

-- FOLDS
abbrev fold_ranges : List Range
fold_ranges = (9210, 9219) ∷ (9300, 9399) ∷ []

second_folds : (code : ℕ) → list_any (within code) (alone plain_folds ++ fold_ranges) ≡ is_some (fold_of code)
second_folds code =
    list_any-append (within code) (alone plain_folds) fold_ranges
    ∙ ap (λ (b : Bool). b || list_any (within code) fold_ranges) (in_alone plain_folds code)
    ∙ by (is_between 9210 9219 code) (is_between 9300 9399 code) (lookup (λ c. c == code) plain_folds)
  where
    by : (b c : Bool) (step : Option FoldStep) → (is_some step || (b || (c || false))) ≡ is_some (if b then Some (folds_of.Joined (code - 9210)) else (if c then Some (folds_of.Sessions (code - 9300)) else step))
    by true c None = refl
    by true c (Some step) = refl
    by false true None = refl
    by false true (Some step) = refl
    by false false None = refl
    by false false (Some step) = refl

pub folds : (code : ℕ) → list_any (is_in code) fold_rows ≡ in_catalogue (Fold code)
folds code = both_shelves fold_rows fold_answers (alone plain_folds ++ fold_ranges) (is_some (fold_of code)) code refl (second_folds code)
