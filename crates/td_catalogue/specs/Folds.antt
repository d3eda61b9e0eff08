-- THE FOLDS of the second shelf: which one a code is, what it keeps and what it sends. A parameter stands in the code's last digits.
use Rattle.std.specs.Prelude.{ℕ, ◌^◌, ◌-◌, ◌==◌, if◌then◌else◌, ℤ, pos, negsuc, ◌*ℤ◌, int_lt}
use Rattle.std.specs.Prelude.{List, [], ◌∷◌, ◌++◌, fold, length, Option, Some, None, option_map, unwrap_or}
use Rattle.std.specs.Int.{saturate_signed, w64}
use Rattle.std.specs.Map.{lookup}
use Rattle.td_stamp.specs.declared.values.Rec.{Rec}
use Rattle.td_stamp.specs.declared.values.Item.{Item}
use Rattle.td_stamp.specs.declared.values.State.{State}
use Rattle.td_calls.specs.Stock.{saturating_add, sum_from, at_port, single, record_if, by_first}
use Rattle.td_catalogue.specs.declared.fold_step.FoldStep.{FoldStep}
use Rattle.td_catalogue.specs.declared.fold_step.FoldStep.TheVariants as folds
use Rattle.td_catalogue.specs.Values.{is_between, higher, lower, later, chosen, latest, eight_from, joined_at, with_third, balanced, with_visit, averaged}

-- the folds without a parameter
abbrev pub plain_folds : List (ℕ × FoldStep)
plain_folds =
    (9200, folds.GreatestSoFar)
    ∷ (9201, folds.LeastSoFar)
    ∷ (9202, folds.LastValue)
    ∷ (9203, folds.CountSoFar)
    ∷ (9204, folds.AverageSoFar)
    ∷ (9205, folds.TwoGreatest)
    ∷ (9206, folds.Balance)
    ∷ (9207, folds.Amount)
    ∷ []

abbrev pub fold_of : ℕ → Option FoldStep
fold_of code =
    if is_between 9210 9219 code then Some (folds.Joined (code - 9210)) else (if is_between 9300 9399 code then Some (folds.Sessions (code - 9300)) else lookup (λ c. c == code) plain_folds)

-- the value of a state, and a state of a value alone
abbrev pub value_of : Option State → Option ℤ
value_of state = option_map (λ s. s.a) state

abbrev pub state_of : Option ℤ → Option State
state_of value = option_map (λ v. record { a = v; b = pos 0 }) value

-- a value is kept and sent; nothing where there is none
abbrev pub kept : ℕ → Option ℤ → Option State × List Rec
kept key None = (None, [])
kept key (Some v) = (Some (record { a = v; b = pos 0 }), single key v)

-- the sum of the values so far, and their number; what is sent is the average
abbrev pub average_so_far : ℕ → State → List Item → Option State × List Rec
average_so_far key before items =
    let sum = sum_from before.a items in
    let count = saturating_add before.b (pos (length items)) in
    (Some (record { a = sum; b = count }), averaged key sum count)

-- the least value of all
abbrev pub lowest : ℤ
lowest = negsuc (2 ^ 63 - 1)

-- the two greatest values so far; a second one that is the least of all stands for none
abbrev pub two_greatest : ℕ → State → Option State × List Rec
two_greatest key two = (Some two, single key two.a ++ record_if (int_lt lowest two.b) (record { key = key; val = two.b }))

-- the sum of port 0's values times the last value of port 1, where there are both
abbrev pub amount : ℕ → Option ℤ → List Item → List Rec
amount key None items = []
amount key (Some last) items =
    by_first (λ i others. single key (saturate_signed w64 (sum_from (pos 0) (i ∷ others) *ℤ last))) (at_port 0 items)

-- how many sessions there are so far
abbrev pub visited : ℕ → Option State → Option State × List Rec
visited key None = (None, [])
visited key (Some s) = (Some s, single key s.b)

-- what a fold keeps and sends of a key, its state and its sorted items
abbrev pub fold_sent : FoldStep → ℕ → Option State → List Item → Option State × List Rec
fold_sent folds.GreatestSoFar key state items = kept key (chosen higher (value_of state) items)
fold_sent folds.LeastSoFar key state items = kept key (chosen lower (value_of state) items)
fold_sent folds.LastValue key state items = kept key (chosen later (value_of state) items)
fold_sent folds.CountSoFar key state items = kept key (Some (saturating_add (unwrap_or (value_of state) (pos 0)) (pos (length items))))
fold_sent folds.AverageSoFar key state items = average_so_far key (unwrap_or state (record { a = pos 0; b = pos 0 })) items
fold_sent folds.TwoGreatest key state items =
    two_greatest key (fold (λ two i. with_third two i.val) (unwrap_or state (record { a = lowest; b = lowest })) items)
fold_sent folds.Balance key state items = kept key (Some (balanced (unwrap_or (value_of state) (pos 0)) items))
fold_sent folds.Amount key state items =
    let last = latest (value_of state) items in
    (state_of last, amount key last items)
fold_sent (folds.Joined i) key state items =
    let last = latest (value_of state) items in
    (state_of last, eight_from i (joined_at last items))
fold_sent (folds.Sessions gap) key state items = visited key (fold (λ s i. Some (with_visit gap s i.val)) state items)
