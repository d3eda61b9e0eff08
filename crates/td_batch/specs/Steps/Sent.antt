-- Groups told while arrivals come in order.
use Rattle.std.specs.Prelude.{ℕ, List, [], ◌∷◌, ◌++◌, map, ◌==◌, cond, Option, Some, None, Bool, false}
use Rattle.std.specs.Ordering.{is_eq}
use Rattle.td_stamp.specs.Orders.{rec_cmp}
use Rattle.td_stamp.specs.declared.values.Item.{Item}
use Rattle.td_stamp.specs.declared.values.Rec.{Rec}
use Rattle.td_stamp.specs.declared.values.Arrival.{Arrival}
use Rattle.td_stamp.specs.Groups.{arrival_of, runs}

-- what is left of what arrives: the records of one bag, at port 0, where there is one, and else other arrivals, if any
abbrev pub arrivals_left : Option (List Rec) → Option (List Arrival) → List Arrival
arrivals_left (Some recs) several = map (arrival_of 0) recs
arrivals_left None (Some several) = several
arrivals_left None None = []

-- the runs of one key, where these items of a key come before the first of them
abbrev pub with_run : ℕ → List Item → List (ℕ × List Item) → List (ℕ × List Item)
with_run key items [] = (key, items) ∷ []
with_run key items (g ∷ groups) = cond (key == g.0) ((g.0, items ++ g.1) ∷ groups) ((key, items) ∷ g ∷ groups)

-- the runs of the arrivals that are left, the first of which was taken from the rest; where none was, none are left
abbrev pub runs_from : Option Arrival → List Arrival → List (ℕ × List Item)
runs_from None rest = []
runs_from (Some first) rest = runs (first ∷ rest)

-- groups, and one before them, if there is one
abbrev pub with_group : Option ℕ → List Item → List (ℕ × List Item) → List (ℕ × List Item)
with_group None items groups = []
with_group (Some key) items groups = (key, items) ∷ groups

-- whether a record is the same as the last one
abbrev pub is_repeat : Option Rec → Rec → Bool
is_repeat None x = false
is_repeat (Some last) x = is_eq (rec_cmp x last)

-- records without those that are the same as the one before
abbrev pub once_after : Option Rec → List Rec → List Rec
once_after last [] = []
once_after last (x ∷ xs) = cond (is_repeat last x) (once_after (Some x) xs) (x ∷ once_after (Some x) xs)
