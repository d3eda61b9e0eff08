-- What the closures of the catalogue are, in words. A text is a list of bytes.
use Rattle.std.specs.Prelude.{ℕ, ◌+◌, ◌-◌, ◌*◌, Bool, true, false, ◌==◌, ◌&&◌, nat_le, if◌then◌else◌, List, [], ◌++◌, map, codes, decimal, unwrap_or, Option, None, option_map}
use Rattle.std.specs.List.{find}
use Rattle.td_plan.specs.declared.vertex.Kind.{Kind}
use Rattle.td_plan.specs.declared.vertex.Kind.TheVariants.{Map, Group, Fold}
use Rattle.td_picture.specs.declared.table.Form.{Form}
use Rattle.td_picture.specs.declared.table.Form.TheVariants.{Plain, Number, Divisor, Count, Eight}
use Rattle.td_picture.specs.declared.table.TheConstants.{MAPS, GROUPS, FOLDS}

abbrev pub Text : Type 0
Text = List ℕ

-- the number by which is divided: p, and 1000 in the place of 0
abbrev pub divisor : ℕ → ℕ
divisor p = if p == 0 then 1000 else p

-- `FRONT, from number 8I + 1 to 8I + 8`
abbrev pub eight_from : Text → ℕ → Text
eight_from front i = front ++ (codes ", from number " ++ (decimal (8 * i + 1) ++ (codes " to " ++ decimal (8 * i + 8))))

-- both texts for one, and else `FRONT P + 1 BACKs`
abbrev pub count_in : Text → Text → ℕ → Text
count_in front back p = if p == 0 then front ++ back else front ++ (decimal (p + 1) ++ (codes " " ++ (back ++ codes "s")))

-- the words of a form and two texts, for a code that is so far above the first of its row
abbrev pub words_in : Form → Text → Text → ℕ → Text
words_in Plain front back p = front
words_in Number front back p = front ++ (decimal p ++ back)
words_in Divisor front back p = front ++ decimal (divisor p)
words_in Count front back p = count_in front back p
words_in Eight front back p = eight_from front p

-- a row of the table: its first code and its last, a form and two texts
abbrev pub Row : Type 0
Row = ℕ × ℕ × Form × Text × Text

-- the rows of maps, of groups and of folds
abbrev pub map_rows : List Row
map_rows = map (λ r. (r.0, r.1, r.2, r.3.now, r.4.now)) MAPS

abbrev pub group_rows : List Row
group_rows = map (λ r. (r.0, r.1, r.2, r.3.now, r.4.now)) GROUPS

abbrev pub fold_rows : List Row
fold_rows = map (λ r. (r.0, r.1, r.2, r.3.now, r.4.now)) FOLDS

-- whether a row has a code
abbrev pub is_in : ℕ → Row → Bool
is_in code row = nat_le row.0 code && nat_le code row.1

-- the row that has a code
abbrev pub row_at : List Row → ℕ → Option Row
row_at rows code = find (is_in code) rows

-- the words of a code, by the row that has it
abbrev pub words_at : List Row → ℕ → Option Text
words_at rows code = option_map (λ row. words_in row.2 row.3 row.4 (code - row.0)) (row_at rows code)

-- what is told where the catalogue has no closure of a code
abbrev pub unknown : Text
unknown = codes "no closure of the catalogue"

-- WHAT A CLOSURE IS in words, of a kind that has one; none where the catalogue has no closure of its code
abbrev pub words_of : Kind → Option Text
words_of (Map code) = words_at map_rows code
words_of (Group code) = words_at group_rows code
words_of (Fold code) = words_at fold_rows code
words_of _ = None

-- what is told of it
abbrev pub told_of : Kind → Text
told_of kind = unwrap_or (words_of kind) unknown

-- whether a kind has a closure
abbrev pub has_closure : Kind → Bool
has_closure (Map code) = true
has_closure (Group code) = true
has_closure (Fold code) = true
has_closure _ = false

-- what is told of the closure of a kind, between two texts; nothing of a kind without one
abbrev pub told_between : Text → Text → Kind → Text
told_between before after kind = if has_closure kind then before ++ told_of kind ++ after else []
