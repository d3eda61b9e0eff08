-- The steps of the catalogue's functions: the least, the greatest and the last val, where there are items. What the
-- catalogue answers does not rest on them.
use Rattle.std.specs.Prelude.{List, [], ◌∷◌, fold, Option, Some, None, ℤ}
use Rattle.std.specs.Int.{int_min}
use Rattle.td_stamp.specs.declared.values.Item.{Item}
use Rattle.td_calls.specs.Stock.{least, greatest}

abbrev pub least_of : List Item → Option ℤ
least_of [] = None
least_of (i ∷ items) = Some (least i items)

abbrev pub greatest_of : List Item → Option ℤ
greatest_of [] = None
greatest_of (i ∷ items) = Some (greatest i items)

-- the lower of a val and the least one before it, where there is one
abbrev pub lower : Option ℤ → ℤ → ℤ
lower None val = val
lower (Some low) val = int_min low val

abbrev pub last_of : List Item → Option ℤ
last_of [] = None
last_of (i ∷ items) = Some (fold (λ last j. j.val) i.val items)
