-- A proof, and nothing that a reader must believe: no closure of the catalogue sends more than eight records. It stands here
-- since the law of the catalogue has it as a field.
use Rattle.std.specs.Prelude.{ℕ, zero, suc, ◌≤◌, ◌+◌, ◌-◌, ◌*◌, Bool, true, false, if◌then◌else◌, ℤ, pos, int_lt, List, [], ◌∷◌, length, flat_map, map, min, Option, Some, None, drop, fold, unwrap_or, option_to_list}
use Rattle.std.specs.List.{range_with_len}
use Rattle.std.specs.Ordering.{int_eq}
use Rattle.std.specs.Int.{int_div_euclid}
use Rattle.std.proofs.lemmas.List.{length-append, length-drop, length-map}
use Rattle.std.proofs.Common.{lit≤, arith}
use Rattle.td_stamp.specs.declared.values.Rec.{Rec}
use Rattle.td_stamp.specs.declared.values.Item.{Item}
use Rattle.td_stamp.specs.declared.values.State.{State}
use Rattle.td_calls.specs.Answers.{AnswerFew}
use Rattle.td_calls.specs.ProvedStock.{stock_few}
use Rattle.td_calls.specs.Stock.{saturating_add, sum_from, record_if, by_first, at_port, single}
use Rattle.td_catalogue.specs.declared.map_step.MapStep.{MapStep}
use Rattle.td_catalogue.specs.declared.map_step.MapStep.TheVariants as maps
use Rattle.td_catalogue.specs.declared.group_step.GroupStep.{GroupStep}
use Rattle.td_catalogue.specs.declared.group_step.GroupStep.TheVariants as groups
use Rattle.td_catalogue.specs.declared.fold_step.FoldStep.{FoldStep}
use Rattle.td_catalogue.specs.declared.fold_step.FoldStep.TheVariants as folds
use Rattle.td_catalogue.specs.Catalogue.{catalogue, map_answer, group_answer, fold_answer}
use Rattle.td_catalogue.specs.Maps.{map_of, map_sent}
use Rattle.td_catalogue.specs.Groups.{group_of, group_sent}
use Rattle.td_catalogue.specs.Folds.{fold_of, fold_sent, kept, two_greatest, amount, visited, lowest, value_of}
use Rattle.td_catalogue.specs.Values.{averaged, last_items, count_of, pair_at, joined_at, chosen, higher, lower, later, latest, with_third, with_visit}

record_if_few : (b : Bool) (r : Rec) → length (record_if b r) ≤ 1
record_if_few true r = lit≤ tt
record_if_few false r = lit≤ tt

at_most_one : (x : Option Rec) → length (option_to_list x) ≤ 1
at_most_one None = lit≤ tt
at_most_one (Some x) = lit≤ tt

map_few : (step : MapStep) (r : Rec) → length (map_sent step r) ≤ 8
map_few (maps.ConstantKey p) r = lit≤ tt
map_few (maps.KeyDivided p) r = lit≤ tt
map_few (maps.KeyModulo p) r = lit≤ tt
map_few (maps.ValueModulo p) r = lit≤ tt
map_few (maps.Above p) r = omega (arith, record_if_few (int_lt (pos p) r.val) r)
map_few (maps.Below p) r = omega (arith, record_if_few (int_lt r.val (pos p)) r)
map_few (maps.Equal p) r = omega (arith, record_if_few (int_eq r.val (pos p)) r)
map_few (maps.ValueDivided p) r = lit≤ tt
map_few maps.Exchanged r = lit≤ tt
map_few maps.Negated r = lit≤ tt
map_few maps.Absolute r = lit≤ tt
map_few maps.Packed r = lit≤ tt
map_few maps.Unpacked r = lit≤ tt
map_few maps.KeyAsValue r = lit≤ tt

some_few : (f : ℕ → Option Rec) (a n : ℕ) → length (flat_map option_to_list (map f (range_with_len a n))) ≤ n
some_few f a zero = lit≤ tt
some_few f a (suc n) =
    let long = length-append (option_to_list (f a)) (flat_map option_to_list (map f (range_with_len (a + 1) n))) in
    rw long (omega (arith, at_most_one (f a), some_few f (a + 1) n))

last_few : (key n : ℕ) (items : List Item) → length {A = Rec} (map (λ i. record { key = key; val = i.val }) (last_items (min n 8) items)) ≤ 8
last_few key n items =
    let back : ℕ = length items - min n 8 in
    let sent : Item → Rec = λ i. record { key = key; val = i.val } in
    let long = length-map (drop back items) sent in
    rw long (rw (length-drop back items) (omega arith))

averaged_few : (key : ℕ) (sum count : ℤ) → length (averaged key sum count) ≤ 8
averaged_few key sum count = elim (int_lt (pos 0) count) as (λ b. length (if b then single key (int_div_euclid sum count) else []) ≤ 8) [ true ↦ lit≤ tt | false ↦ lit≤ tt ]

group_few : (step : GroupStep) (key : ℕ) (items : List Item) → length (group_sent step key items) ≤ 8
group_few groups.DistinctValues key items = lit≤ tt
group_few (groups.GreatestValues n) key items = last_few key n items
group_few groups.Average key items = averaged_few key (sum_from (pos 0) items) (count_of items)
group_few (groups.Pairs i) key items = some_few (pair_at items) (8 * i) 8

kept_few : (key : ℕ) (value : Option ℤ) → length (kept key value).1 ≤ 8
kept_few key None = lit≤ tt
kept_few key (Some v) = lit≤ tt

two_few : (key : ℕ) (two : State) → length (two_greatest key two).1 ≤ 8
two_few key two = omega (arith, record_if_few (int_lt lowest two.b) (record { key = key; val = two.b }))

by_first_few : (f : Item → List Item → List Rec) → ((i : Item) (rest : List Item) → length (f i rest) ≤ 8) → (items : List Item) → length (by_first f items) ≤ 8
by_first_few f h [] = lit≤ tt
by_first_few f h (i ∷ items) = h i items

amount_few : (key : ℕ) (last : Option ℤ) (items : List Item) → length (amount key last items) ≤ 8
amount_few key None items = lit≤ tt
amount_few key (Some last) items = by_first_few _ (λ i rest. lit≤ tt) (at_port 0 items)

visited_few : (key : ℕ) (state : Option State) → length (visited key state).1 ≤ 8
visited_few key None = lit≤ tt
visited_few key (Some s) = lit≤ tt

fold_few : (step : FoldStep) (key : ℕ) (state : Option State) (items : List Item) → length (fold_sent step key state items).1 ≤ 8
fold_few folds.GreatestSoFar key state items = kept_few key (chosen higher (value_of state) items)
fold_few folds.LeastSoFar key state items = kept_few key (chosen lower (value_of state) items)
fold_few folds.LastValue key state items = kept_few key (chosen later (value_of state) items)
fold_few folds.CountSoFar key state items = lit≤ tt
fold_few folds.AverageSoFar key state items =
    let before = unwrap_or state (record { a = pos 0; b = pos 0 }) in
    averaged_few key (sum_from before.a items) (saturating_add before.b (pos (length items)))
fold_few folds.TwoGreatest key state items =
    two_few key (fold (λ two i. with_third two i.val) (unwrap_or state (record { a = lowest; b = lowest })) items)
fold_few folds.Balance key state items = lit≤ tt
fold_few folds.Amount key state items = amount_few key (latest (value_of state) items) items
fold_few (folds.Joined i) key state items = some_few (joined_at (latest (value_of state) items) items) (8 * i) 8
fold_few (folds.Sessions gap) key state items = visited_few key (fold (λ s i. Some (with_visit gap s i.val)) state items)

maps_few : (step : Option MapStep) (code port : ℕ) (r : Rec) → length (map_answer step code port r) ≤ 8
maps_few None code port r = stock_few.emit code port r
maps_few (Some step) code port r = map_few step r

groups_few : (step : Option GroupStep) (code key : ℕ) (items : List Item) → length (group_answer step code key items) ≤ 8
groups_few None code key items = stock_few.group code key items
groups_few (Some step) code key items = group_few step key items

folds_few : (step : Option FoldStep) (code key : ℕ) (state : Option State) (items : List Item) → length (fold_answer step code key state items).1 ≤ 8
folds_few None code key state items = stock_few.fold code key state items
folds_few (Some step) code key state items = fold_few step key state items

pub catalogue_few : AnswerFew catalogue
catalogue_few = record {
  emit = λ code. maps_few (map_of code) code;
  group = λ code. groups_few (group_of code) code;
  fold = λ code. folds_few (fold_of code) code;
}
