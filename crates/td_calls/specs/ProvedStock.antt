-- A proof, and nothing that a reader must believe: no closure of the catalogue sends more than eight records. It stands here
-- since the law of the catalogue has it as a field.
use Rattle.std.specs.Prelude.{ℕ, ◌≤◌, Bool, true, false, ◌==◌, List, [], ◌∷◌, length, Option, Some, None, cond, unwrap_or}
use Rattle.std.specs.List.{AllByRecursion}
use Rattle.std.specs.Map.{lookup}
use Rattle.std.proofs.Common.{lit≤}
use Rattle.td_stamp.specs.declared.values.Rec.{Rec}
use Rattle.td_stamp.specs.declared.values.Item.{Item}
use Rattle.td_stamp.specs.declared.values.State.{State}
use Rattle.td_calls.specs.Answers.{AnswerFew}
use Rattle.td_calls.specs.Stock.{map_answers, group_answers, fold_answers, stock, record_if, by_first, joined_least, toggled, at_port}

-- a map, a group and a fold that send at most eight records
abbrev FewOfMap : (ℕ → Rec → List Rec) → Type 0
FewOfMap f = (port : ℕ) (r : Rec) → length (f port r) ≤ 8

abbrev FewOfGroup : (ℕ → List Item → List Rec) → Type 0
FewOfGroup f = (key : ℕ) (items : List Item) → length (f key items) ≤ 8

abbrev FewOfFold : (ℕ → Option State → List Item → Option State × List Rec) → Type 0
FewOfFold f = (key : ℕ) (state : Option State) (items : List Item) → length (f key state items).1 ≤ 8

-- what holds of each row of a table, and of the default, holds of what is looked up
at_code : {X : Type 0} (P : X → Type 0) (test : ℕ → Bool) (rows : List (ℕ × X)) (other : X)
    → AllByRecursion (λ r. P r.1) rows → P other → P (unwrap_or (lookup test rows) other)
at_code P test [] other h d = d
at_code P test (r ∷ rows) other h d =
    elim (test r.0) as (λ b. P (unwrap_or (cond b (Some r.1) (lookup test rows)) other)) [ true ↦ h.0 | false ↦ at_code P test rows other h.1 d ]

record_if_few : (b : Bool) (r : Rec) → length (record_if b r) ≤ 8
record_if_few true r = lit≤ tt
record_if_few false r = lit≤ tt

by_first_few : (f : Item → List Item → List Rec) → ((i : Item) (rest : List Item) → length (f i rest) ≤ 8) → (items : List Item) → length (by_first f items) ≤ 8
by_first_few f h [] = lit≤ tt
by_first_few f h (i ∷ items) = h i items

joined_few : FewOfGroup joined_least
joined_few key items = by_first_few _ (λ i left. by_first_few _ (λ j right. lit≤ tt) (at_port 1 items)) (at_port 0 items)

toggled_few : FewOfFold toggled
toggled_few key (Some s) items = lit≤ tt
toggled_few key None [] = lit≤ tt
toggled_few key None (i ∷ items) = lit≤ tt

maps_few : AllByRecursion (λ row. FewOfMap row.1) map_answers
maps_few = (
  λ port r. lit≤ tt,
  (
    λ port r. lit≤ tt,
    (
      λ port r. record_if_few _ r,
      (
        λ port r. record_if_few _ r,
        (
          λ port r. lit≤ tt,
          (λ port r. lit≤ tt, (λ port r. lit≤ tt, (λ port r. record_if_few _ r, (λ port r. lit≤ tt, tt)))),
        ),
      ),
    ),
  ),
)

groups_few : AllByRecursion (λ row. FewOfGroup row.1) group_answers
groups_few = (
  λ key items. lit≤ tt,
  (
    λ key items. lit≤ tt,
    (
      λ key items. by_first_few _ (λ i rest. lit≤ tt) items,
      (
        λ key items. by_first_few _ (λ i rest. lit≤ tt) items,
        (joined_few, tt),
      ),
    ),
  ),
)

folds_few : AllByRecursion (λ row. FewOfFold row.1) fold_answers
folds_few = (λ key state items. lit≤ tt, (toggled_few, tt))

pub stock_few : AnswerFew stock
stock_few = record {
  emit = λ code. at_code FewOfMap (λ c. c == code) map_answers _ maps_few (λ port r. lit≤ tt);
  group = λ code. at_code FewOfGroup (λ c. c == code) group_answers _ groups_few (λ key items. lit≤ tt);
  fold = λ code. at_code FewOfFold (λ c. c == code) fold_answers _ folds_few (λ key state items. lit≤ tt);
}
