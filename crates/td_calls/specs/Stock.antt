-- The catalogue of closures that the program has.
use Rattle.std.specs.Prelude.{ℕ, ◌+◌, ◌/◌, ◌%◌, ◌^◌, ◌-◌, ℤ, pos, negsuc, ◌+ℤ◌, int_lt, int_rem, min, Bool, ◌==◌, not, if◌then◌else◌}
use Rattle.std.specs.Prelude.{List, [], ◌∷◌, filter, fold, length, Option, Some, None, unwrap_or}
use Rattle.std.specs.Ordering.{int_eq}
use Rattle.std.specs.Int.{int_min, int_max, saturate_signed, w64}
use Rattle.std.specs.Map.{lookup}
use Rattle.td_stamp.specs.declared.values.Rec.{Rec}
use Rattle.td_stamp.specs.declared.values.Item.{Item}
use Rattle.td_stamp.specs.declared.values.State.{State}
use Rattle.td_calls.specs.Answers.{Answers}

-- a sum that stops at the ends of i64
abbrev pub saturating_add : ℤ → ℤ → ℤ
saturating_add x y = saturate_signed w64 (x +ℤ y)

-- start, continued by the vals in order
abbrev pub sum_from : ℤ → List Item → ℤ
sum_from start items = fold (λ sum i. saturating_add sum i.val) start items

abbrev pub is_even : ℤ → Bool
is_even z = int_eq (int_rem z (pos 2)) (pos 0)

-- the least and the greatest val, and the last
abbrev pub least : Item → List Item → ℤ
least i items = fold (λ low j. int_min low j.val) i.val items

abbrev pub greatest : Item → List Item → ℤ
greatest i items = fold (λ high j. int_max high j.val) i.val items

abbrev pub at_port : ℕ → List Item → List Item
at_port port items = filter (λ i. i.port == port) items

abbrev pub single : ℕ → ℤ → List Rec
single key val = record { key = key; val = val } ∷ []

abbrev pub record_if : Bool → Rec → List Rec
record_if test r = if test then r ∷ [] else []

-- nothing for no items, and else what the first item and the others give
abbrev pub by_first : (Item → List Item → List Rec) → List Item → List Rec
by_first f [] = []
by_first f (i ∷ items) = f i items

-- what the maps send, by code, of a port and a record
abbrev pub map_answers : List (ℕ × (ℕ → Rec → List Rec))
map_answers =
    (1, λ port r. r ∷ [])
    ∷ (2, λ port r. single r.key (saturating_add r.val (negsuc 0)))
    ∷ (3, λ port r. record_if (is_even r.val) r)
    ∷ (4, λ port r. record_if (not (is_even r.val)) r)
    ∷ (5, λ port r. single (r.key / 2) r.val)
    ∷ (6, λ port r. r ∷ r ∷ [])
    ∷ (7, λ port r. single r.key (pos port))
    ∷ (8, λ port r. record_if (int_lt (pos 0) r.val) r)
    ∷ (9, λ port r. single ((r.key % 4 + 1) % 4) r.val)
    ∷ []

-- the sum of the least vals of ports 0 and 1, where both have items
abbrev pub joined_least : ℕ → List Item → List Rec
joined_least key items =
    by_first (λ i left. by_first (λ j right. single key (saturating_add (least i left) (least j right))) (at_port 1 items)) (at_port 0 items)

-- what the groups send, by code, of a key and its sorted items
abbrev pub group_answers : List (ℕ × (ℕ → List Item → List Rec))
group_answers =
    (20, λ key items. single key (pos (min (length items) (2 ^ 63 - 1))))
    ∷ (21, λ key items. single key (sum_from (pos 0) items))
    ∷ (22, λ key items. by_first (λ i rest. single key (least i rest)) items)
    ∷ (23, λ key items. by_first (λ i rest. single key (greatest i rest)) items)
    ∷ (24, joined_least)
    ∷ []

-- a total and a count
abbrev pub totalled : ℕ → Option State → List Item → Option State × List Rec
totalled key state items =
    let before = unwrap_or state (record { a = pos 0; b = pos 0 }) in
    let a = sum_from before.a items in
    (Some (record { a = a; b = saturating_add before.b (pos (length items)) }), single key a)

-- the last val, kept at every other time
abbrev pub toggled : ℕ → Option State → List Item → Option State × List Rec
toggled key (Some s) items = (None, single key (pos 0))
toggled key None [] = (None, [])
toggled key None (i ∷ items) = (Some (record { a = fold (λ last j. j.val) i.val items; b = pos 0 }), single key (pos 1))

-- what the folds keep and send, by code, of a key, its state and its sorted items
abbrev pub fold_answers : List (ℕ × (ℕ → Option State → List Item → Option State × List Rec))
fold_answers = (40, totalled) ∷ (41, toggled) ∷ []

-- a code that is not in the catalogue: nothing is sent, and a state stays
abbrev pub stock : Answers
stock = record {
  emit = λ code. unwrap_or (lookup (λ c. c == code) map_answers) (λ port r. []);
  group = λ code. unwrap_or (lookup (λ c. c == code) group_answers) (λ key items. []);
  fold = λ code. unwrap_or (lookup (λ c. c == code) fold_answers) (λ key state items. (state, []));
}
