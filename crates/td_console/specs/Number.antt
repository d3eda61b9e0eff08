-- Signed numbers in a text.
use Rattle.std.specs.Prelude.{ℕ, suc, ℤ, pos, negsuc, ◌==◌, ◌^◌, nat_lt, if◌then◌else◌, List, drop, slice_index, Option, Some, None}
use Rattle.td_plan.specs.Text.{natural_of}

-- a number with no sign, which an i64 holds
abbrev pub positive : Option ℕ → Option ℤ
positive None = None
positive (Some n) = if nat_lt n (2 ^ 63) then Some (pos n) else None

-- a number after a minus sign, which an i64 holds and which is not 0; `negsuc n` is -(n + 1)
abbrev pub negative : Option ℕ → Option ℤ
negative (Some (suc n)) = if nat_lt n (2 ^ 63) then Some (negsuc n) else None
negative _ = None

-- the i64 that a word writes: digits with no leading zeros, or a minus sign, which is 45, directly before them
abbrev pub integer_of : List ℕ → Option ℤ
integer_of word = if slice_index word 0 == 45 then negative (natural_of (drop 1 word)) else positive (natural_of word)
