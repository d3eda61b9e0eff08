-- What the closures of the second shelf find in the items of a key, which come sorted by (port, val).
use Rattle.std.specs.Prelude.{ℕ, ◌-◌, ◌*◌, ◌/◌, ◌%◌, ◌^◌, ℤ, pos, int_lt, min, nat_le, Bool, false, ◌==◌, ◌&&◌, if◌then◌else◌}
use Rattle.std.specs.Prelude.{List, [], drop, flat_map, fold, length, map, Option, Some, None, option_map, option_to_list}
use Rattle.std.specs.Int.{int_max, int_min, int_div_euclid, cast_unsigned, w64}
use Rattle.std.specs.List.{slice_get, range_with_len}
use Rattle.std.specs.Ordering.{int_eq}
use Rattle.td_stamp.specs.declared.values.Rec.{Rec}
use Rattle.td_stamp.specs.declared.values.Item.{Item}
use Rattle.td_stamp.specs.declared.values.State.{State}
use Rattle.td_calls.specs.Stock.{saturating_add, at_port, single}

-- whether a code is one of those from the first to the last
abbrev pub is_between : ℕ → ℕ → ℕ → Bool
is_between first last code = nat_le first code && nat_le code last

-- what divides: P, and 1,000 where P is 0
abbrev pub divisor : ℕ → ℕ
divisor p = if p == 0 then 1000 else p

-- a length as a value: at most the greatest one
abbrev pub count_of : List Item → ℤ
count_of items = pos (min (length items) (2 ^ 63 - 1))

-- the items at the end: n of them, or all where there are no more
abbrev pub last_items : ℕ → List Item → List Item
last_items n items = drop (length items - n) items

-- whether a value is the one before it, if there is one
abbrev pub is_again : Option ℤ → ℤ → Bool
is_again None v = false
is_again (Some before) v = int_eq before v

-- runs of equal values, one after another: the last value, and how many runs there are so far
abbrev pub with_run : Option ℤ × ℤ → ℤ → Option ℤ × ℤ
with_run seen v = (Some v, if is_again seen.0 v then seen.1 else saturating_add seen.1 (pos 1))

abbrev pub runs : List Item → ℤ
runs items = (fold (λ seen i. with_run seen i.val) (None, pos 0) items).1

-- the higher, the lower and the later of a value and the one before it, if there is one
abbrev pub higher : Option ℤ → ℤ → ℤ
higher None v = v
higher (Some before) v = int_max before v

abbrev pub lower : Option ℤ → ℤ → ℤ
lower None v = v
lower (Some before) v = int_min before v

abbrev pub later : Option ℤ → ℤ → ℤ
later before v = v

-- the values in turn, each with the one that was chosen by then; `before` was chosen before them, if there was one
abbrev pub chosen : (Option ℤ → ℤ → ℤ) → Option ℤ → List Item → Option ℤ
chosen choose before items = fold (λ kept i. Some (choose kept i.val)) before items

-- the last value of port 1, or the one before, if there is one
abbrev pub latest : Option ℤ → List Item → Option ℤ
latest before items = chosen later before (at_port 1 items)

-- EIGHT AT A TIME: of the records of number 0, 1, .. those of the numbers 8 I to 8 I + 7, as far as there are any
abbrev pub eight_from : ℕ → (ℕ → Option Rec) → List Rec
eight_from i record_at = flat_map option_to_list (map record_at (range_with_len (8 * i) 8))

-- the value of an item as a key, with this value; a value below 0 is the key 2^64 above it
abbrev pub under_value : ℤ → Item → Rec
under_value val i = record { key = cast_unsigned w64 i.val; val = val }

-- an item of port 0 and one of port 1: the value of the first, under that of the second
abbrev pub pair_of : Option Item → Option Item → Option Rec
pair_of None second = None
pair_of (Some first) second = option_map (under_value first.val) second

-- the pair of number k: of n items of port 1, each item of port 0 has n pairs, one after another
abbrev pub pair_at : List Item → ℕ → Option Rec
pair_at items k =
    let n = length (at_port 1 items) in
    if n == 0 then None else pair_of (slice_get (at_port 0 items) (k / n)) (slice_get (at_port 1 items) (k % n))

-- the item of number k of port 0, under its value with this one, if there is one
abbrev pub joined_at : Option ℤ → List Item → ℕ → Option Rec
joined_at None items k = None
joined_at (Some val) items k = option_map (under_value val) (slice_get (at_port 0 items) k)

-- the two greatest values, a the greatest
abbrev pub with_third : State → ℤ → State
with_third two v =
    if int_lt two.a v then record { a = v; b = two.a } else (if int_lt two.b v then record { a = two.a; b = v } else two)

-- a balance, which never falls below 0
abbrev pub balanced : ℤ → List Item → ℤ
balanced before items = fold (λ sum i. int_max (pos 0) (saturating_add sum i.val)) before items

-- the greatest value so far, and the number of sessions: one begins at the first value, and at each that is more than a gap above
-- the greatest one before it
abbrev pub with_visit : ℕ → Option State → ℤ → State
with_visit gap None v = record { a = v; b = pos 1 }
with_visit gap (Some s) v =
    record { a = int_max s.a v; b = if int_lt (saturating_add s.a (pos gap)) v then saturating_add s.b (pos 1) else s.b }

-- the sum divided by how many there are, rounded down; nothing of none
abbrev pub averaged : ℕ → ℤ → ℤ → List Rec
averaged key sum count = if int_lt (pos 0) count then single key (int_div_euclid sum count) else []
